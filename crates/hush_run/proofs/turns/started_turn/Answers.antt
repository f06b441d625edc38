use Rattle.std.proofs.Common.{ℕ, drop, sym, ap, ◌∙◌}
use Rattle.hush_run.specs.Meaning.{Goes, if_ok, in_turn, with_status}
use Rattle.hush_run.specs.Turns.{due_does}
use Rattle.hush_run.proofs.Parts.{bind_goes}
use Rattle.hush_run.proofs.turns.started_turn.Goals as goal

pub returns : goal.returns
returns c = λ at.
    let fits = c.due_after.ensures.due at in
    (fits.0, fits.1, λ rules same begin counting s le. ap (λ (n : ℕ). if_ok (in_turn begin (drop 1 c.args.names)) Goes (with_status n s)) (sym c.text_status-status.ensures) ∙ c.due_after.ensures.same rules begin at s ∙ sym (bind_goes (due_does rules begin at c.due_after.result (with_status c.text_status-status.result s))))
