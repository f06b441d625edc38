use Rattle.std.proofs.Common.{ℕ, ◌==◌, ap, sym, ◌∙◌}
use Rattle.std.proofs.lemmas.List.{length-map}
use Rattle.fw_check.specs.FileChecks.{script_view}
use Rattle.fw_check.proofs.visits.is_alone.Goals as goal

pub returns : goal.returns
returns c = c.is_empty.ensures ∙ ap (λ (n : ℕ). n == 0) (sym (length-map c.args.scripts.now script_view))
