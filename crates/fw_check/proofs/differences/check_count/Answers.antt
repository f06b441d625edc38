use Rattle.std.proofs.Common.{[], ◌∷◌, ap, sym, ◌∙◌}
use Rattle.finding_kinds.specs.declared.kinds.FindingKind.TheVariants as kind
use Rattle.fw_check.specs.ReportLines.{found_at}
use Rattle.fw_check.specs.CommandFindings.{many_sentence}
use Rattle.fw_check.specs.Found.{found_more}
use Rattle.fw_check.proofs.FoundLemmas.{ok-then}
use Rattle.fw_check.proofs.ManyLemmas.{many-at}
use Rattle.fw_check.proofs.differences.check_count.Goals as goal

pub returns-in-Some : goal.returns-in-Some
returns-in-Some c =
    let words = c.args.words.now in
    let found = c.in-Some.ensures.lookup in
    let at = ap (λ w. found_at w.start kind.ManyWords many_sentence ∷ []) found.1 ∙ sym (many-at words 16 c.in-Some.word.now found.0) in
    ok-then c.add.result _ _ (λ e. e ∙ ap (found_more c.args.findings.now) at) c.add.ensures
