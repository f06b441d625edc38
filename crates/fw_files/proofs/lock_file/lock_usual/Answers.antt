use Rattle.fw_files.proofs.SaidLemmas.{waited_on}
use Rattle.fw_files.proofs.lock_file.lock_usual.Goals as goal

pub returns-in-Ok-locked-clause-waited : goal.returns-in-Ok-locked-clause-waited
returns-in-Ok-locked-clause-waited g c = waited_on _ _ _ c.lock_at.ensures c.locked.ensures

pub returns-clause-waited : goal.returns-clause-waited
returns-clause-waited g c = waited_on _ _ _ c.lock_at.ensures c.locked.ensures
