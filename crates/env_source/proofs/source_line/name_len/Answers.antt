use Rattle.std.proofs.Common.{◌∙◌}
use Rattle.text_parts.proofs.CutLemmas.{position_or_len-answer}
use Rattle.env_source.specs.SourceLines.{ends_name}
use Rattle.env_source.proofs.source_line.name_len.Goals as goal

pub returns-clause-value : goal.returns-clause-value
returns-clause-value c = c.unwrap_or.ensures ∙ position_or_len-answer ends_name c.args.line.now c.memchr2.result c.memchr2.ensures
