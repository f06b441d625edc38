use Rattle.std.proofs.Common.{ℕ, List, [], ◌∷◌, ◌++◌, ap, append-nil, ◌∙◌}
use Rattle.finding_kinds.specs.declared.kinds.FindingKind.TheVariants as finding
use Rattle.fw_check.specs.Found.{found_more}
use Rattle.fw_check.specs.ReportLines.{found_at}
use Rattle.fw_check.proofs.FoundLemmas.{ok-then}
use Rattle.fw_check.proofs.script_check.tell_halt.Goals as goal

pub returns : goal.returns
returns c =
    let sentence = c.deref.result.now in
    let whole = append-nil (sentence ++ []) ∙ append-nil sentence ∙ c.deref.ensures.value ∙ c.in_ok-sentence.ensures in
    ok-then c.add.result _ _
    (λ told. told ∙ ap (λ (t : List ℕ). found_more c.args.found.now (found_at c.args.halt.fault.place finding.Syntax t ∷ [])) whole) c.add.ensures
