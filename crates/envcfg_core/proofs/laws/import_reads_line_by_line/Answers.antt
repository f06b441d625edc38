use Rattle.envcfg_core.proofs.ExportLemmas.{entries_from-exported}
use Rattle.envcfg_core.proofs.LineLawLemmas.{reads_blank_line, reads_comment, reads_deletion}
use Rattle.envcfg_core.proofs.laws.import_reads_line_by_line.Goals as goal

pub returns : goal.returns
returns c = record {
  blank_line = reads_blank_line;
  comment = reads_comment;
  deletion = reads_deletion;
  variable = entries_from-exported;
}
