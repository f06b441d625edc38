use Rattle.std.proofs.Common.{List, Ok, subst, sym}
use Rattle.envimg_core.specs.Environment.{Pair}
use Rattle.hush_commands.specs.Output.{Prints}
use Rattle.hush_commands.specs.Listing.{lines_of}
use Rattle.hush_commands.proofs.OutputLemmas.{prints-nothing}
use Rattle.hush_commands.proofs.listing.print_all.Goals as goal

pub returns : goal.returns
returns c =
    let o = c.loop-name.output in
    c.loop-name.invariant o (Ok tt) (subst (λ (ps : List Pair). Prints (lines_of c.args.all ps) o o (Ok tt)) (sym c.in-None.ensures.steps.0) (prints-nothing o))
