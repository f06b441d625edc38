use Rattle.std.proofs.Common.{ap, ◌∙◌, ◌++◌, ◌-◌, length, take, drop}
use Rattle.hush_syntax.proofs.Building.{range-rest}
use Rattle.hush_syntax.proofs.table.settle.Goals as goal

pub returns-clause-table : goal.returns-clause-table
returns-clause-table g c =
    c.in_ok-extend_from_slice.ensures.items
    ∙ ap (λ l. c.args.table.now.items ++ take (length l - c.args.mark) (drop c.args.mark l)) c.as_slice.ensures.value
    ∙ ap (λ l. c.args.table.now.items ++ l) (range-rest c.args.mark c.args.waiting.now.items)
