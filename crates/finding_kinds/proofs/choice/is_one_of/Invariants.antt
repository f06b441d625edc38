use Rattle.std.proofs.Common.{◌≡◌, drop, map}
use Rattle.std.specs.List.{list_any}
use Rattle.finding_kinds.specs.Kinds.{is_called}
use Rattle.finding_kinds.proofs.choice.is_one_of.Given as goal

abbrev pub invariant-loop-code : goal.invariant-loop-code
invariant-loop-code l =
    list_any (λ code. is_called code l.kind) (map (λ c. c.now) (drop l.code-index l.codes))
    ≡ list_any (λ code. is_called code l.kind) (map (λ c. c.now) l.codes)
