use Rattle.std.proofs.Common.{Bool, ap, ◌∙◌}
use Rattle.std.specs.Prelude.{◌&&◌}
use Rattle.finding_kinds.specs.declared.kinds.FindingKind.TheVariants as kind
use Rattle.fw_check.specs.Findings.{branchless_sentence, found_if, loop_sentence, mixed_sentence, stale_sentence}
use Rattle.fw_check.specs.Found.{found_more}
use Rattle.fw_check.proofs.FoundLemmas.{found-four, ok-then}
use Rattle.fw_check.proofs.statuses.check_setting.Goals as goal

pub returns : goal.returns
returns c =
    let s = c.args.setting in
    let at = c.args.count in
    let three = c.add_if-3.new.findings in
    ok-then c.add_if-4.result _ _
    (λ e.
    found-four c.args.findings.now c.add_if.new.findings c.add_if-2.new.findings three c.add_if-4.new.findings
    (found_if s.mixes at kind.AndOr mixed_sentence) (found_if s.branchless at kind.IfStatus branchless_sentence) (found_if s.loops at kind.LoopStatus loop_sentence)
    (found_if (s.begins && c.args.shows) at kind.StaleStatus stale_sentence) c.in_ok-add_if.ensures c.in_ok-add_if-2.ensures
    c.in_ok-add_if-3.ensures (e ∙ ap (λ (b : Bool). found_more three (found_if b at kind.StaleStatus stale_sentence)) c.is_stale.ensures))
    c.add_if-4.ensures
