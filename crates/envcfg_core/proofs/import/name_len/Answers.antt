use Rattle.std.proofs.Common.{◌∙◌}
use Rattle.envcfg_core.specs.Import.{ends_name}
use Rattle.text_parts.proofs.CutLemmas.{position_or_len-answer}
use Rattle.envcfg_core.proofs.import.name_len.Goals as goal

pub returns-clause-value : goal.returns-clause-value
returns-clause-value c = c.unwrap_or.ensures ∙ position_or_len-answer ends_name c.args.text.now c.memchr2.result c.memchr2.ensures
