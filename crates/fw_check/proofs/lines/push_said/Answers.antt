use Rattle.fw_check.specs.Lines.{code_text, severity_text}
use Rattle.fw_check.proofs.FoundLemmas.{ok-then}
use Rattle.fw_check.proofs.LineLemmas.{three_more}
use Rattle.fw_check.proofs.lines.push_said.Goals as goal

pub returns : goal.returns
returns c =
    let a = c.args in
    ok-then c.push_code.result _ _
    (λ e. three_more a.text.now.items _ _ _ (severity_text a.kind) a.before.now a.name.now a.after.now (code_text a.kind) c.in_ok-push_severity.ensures c.in_ok-push_three.ensures e)
    c.push_code.ensures
