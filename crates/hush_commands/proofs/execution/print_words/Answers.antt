use Rattle.std.proofs.Common.{ℕ, List, ◌++◌, ◌∙◌, subst}
use Rattle.hush_commands.specs.Output.{Prints}
use Rattle.hush_commands.proofs.execution.print_words.Goals as goal

pub returns : goal.returns
returns c =
    subst (λ (text : List ℕ). Prints (c.args.front.now ++ (text ++ c.args.back.now)) c.args.output.now c.print_parts.new.self c.print_parts.result)
    (c.deref.ensures.value ∙ c.in_ok-text.ensures) c.print_parts.ensures.prints
