use Rattle.envcfg_core.proofs.ReadingLemmas.{spelled-is-read, read-is-spelled}
use Rattle.envcfg_core.proofs.laws.texts_are_read_as_they_spell.Goals as goal

pub returns : goal.returns
returns c = record {
  read = spelled-is-read;
  spelled = read-is-spelled;
}
