use Rattle.envcfg_core.specs.ImportSteps.{stop_view}
use Rattle.envcfg_core.proofs.SpelledLemmas.{spelled_without_marks, spelled_at_mark}
use Rattle.envcfg_core.proofs.spelled.cut_plain.Goals as goal

pub returns-in_default-clause-value : goal.returns-in_default-clause-value
returns-in_default-clause-value c = spelled_without_marks c.args.text.now c.memchr2.result c.memchr2.ensures c.in_default.not-Some

pub returns-clause-value : goal.returns-clause-value
returns-clause-value c =
    spelled_at_mark c.args.text.now c.in-Some.at _ _ (stop_view c.stop_at.result) c.in-Some.ensures c.split_at.ensures.front c.split_at.ensures.back c.stop_at.ensures.value
