use Rattle.envcfg_core.proofs.SpellingLemmas.{spelled-read}
use Rattle.envcfg_core.proofs.laws.spelled_texts_are_read.Goals as goal

pub returns : goal.returns
returns c = spelled-read
