use Rattle.std.proofs.Common.{refl}
use Rattle.fw_session.proofs.StreamLemmas.{writes_two, writes_one}
use Rattle.fw_session.proofs.answers.write_both.Goals as goal

pub returns-then-write_text : goal.returns-then-write_text
returns-then-write_text g c = writes_two _ _ _ _ _ _ _ _ _ _ c.write_text-then-write_text.result refl refl c.if-write_text.ensures c.write_text-then-write_text.ensures

pub returns-else-write_text : goal.returns-else-write_text
returns-else-write_text g c = writes_one _ _ _ _ _ _ _ c.write_text.result c.if-write_text.false refl c.write_text.ensures
