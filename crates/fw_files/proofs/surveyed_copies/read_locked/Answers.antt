use Rattle.fw_files.proofs.SaidLemmas.{once_waited}
use Rattle.fw_files.proofs.surveyed_copies.read_locked.Goals as goal

pub returns-in-Ok-clause-waited : goal.returns-in-Ok-clause-waited
returns-in-Ok-clause-waited g c = once_waited _ _ _ c.lock_path-lock.ensures

pub returns-clause-waited : goal.returns-clause-waited
returns-clause-waited g c = once_waited _ _ _ c.lock_path-lock.ensures
