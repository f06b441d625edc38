use Rattle.std.proofs.Common.{◌∙◌}
use Rattle.memchr.specs.Find.{is_byte}
use Rattle.text_parts.proofs.CutLemmas.{list_any-answer}
use Rattle.text_parts.proofs.cuts.contains_byte.Goals as goal

pub returns : goal.returns
returns c = c.is_some.ensures ∙ list_any-answer (is_byte c.args.byte) c.args.text.now c.memchr.result c.memchr.ensures
