use Rattle.std.proofs.Common.{ℕ, List, [], ◌∷◌, ◌++◌, codes, Option, ap, sym, ◌∙◌}
use Rattle.std.specs.Prelude.{option_map}
use Rattle.fw_check.specs.Expecting.{suspect_view}
use Rattle.fw_check.specs.declared.operators.Suspect.{Suspect}
use Rattle.finding_kinds.specs.declared.kinds.FindingKind.TheVariants as kind
use Rattle.fw_check.specs.ReportLines.{found_at}
use Rattle.fw_check.specs.CommandFindings.{wrong_findings}
use Rattle.fw_check.specs.Found.{found_more}
use Rattle.fw_check.proofs.FoundLemmas.{ok-then}
use Rattle.fw_check.proofs.statements.check_wrong.Goals as goal

pub returns-in-Some : goal.returns-in-Some
returns-in-Some c =
    let old = c.args.findings.now in
    let shell = c.args.shell in
    let wrong = c.in-Some.wrong in
    let one =
    ap (λ (n : List ℕ). found_more old (found_at wrong.count kind.TestOperator (codes "`test` has no operator `" ++ n ++ c.operator_end.result.now) ∷ [])) c.deref.ensures.value
    ∙ ap (λ (e : List ℕ). found_more old (found_at wrong.count kind.TestOperator (codes "`test` has no operator `" ++ wrong.bytes.items ++ e) ∷ [])) c.operator_end.ensures in
    let more = ap (λ (o : Option Suspect). found_more old (wrong_findings shell c.args.count c.args.broken (option_map suspect_view o))) (sym c.in-Some.is) in
    ok-then c.add.result _ _ (λ e. e ∙ one ∙ more) c.add.ensures
