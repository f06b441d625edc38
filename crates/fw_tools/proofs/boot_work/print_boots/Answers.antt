use Rattle.std.proofs.Common.{List, ℕ, inl, subst}
use Rattle.fw_engines.specs.Tool.{PrintsText}
use Rattle.fw_tools.proofs.boot_work.print_boots.Goals as goal

pub returns-in-Ok : goal.returns-in-Ok
returns-in-Ok g c =
    let prints : List ℕ → Type 0 = λ text.
    PrintsText (g.W.Write.contents c.args.output.now) (g.W.Write.contents c.print_text.new.output) text c.in-Ok.told.status c.print_text.result in
    inl (c.in-Ok.told, c.in-Ok.ensures, subst prints c.deref.ensures.value c.print_text.ensures)
