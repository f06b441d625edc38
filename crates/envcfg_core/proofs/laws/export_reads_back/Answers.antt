use Rattle.envcfg_core.proofs.ExportLemmas.{import-exported_all}
use Rattle.envcfg_core.proofs.laws.export_reads_back.Goals as goal

pub returns : goal.returns
returns c = import-exported_all
