use Rattle.fw_files.proofs.SaidLemmas.{once_waited, waited_on}
use Rattle.fw_files.proofs.lock_file.lock_once.Goals as goal

pub returns-in_err-files-clause-waited : goal.returns-in_err-files-clause-waited
returns-in_err-files-clause-waited g c = waited_on _ _ _ (once_waited _ _ _ c.lock_device-device.ensures) c.lock_files.ensures.waited

pub returns-clause-waited : goal.returns-clause-waited
returns-clause-waited g c = waited_on _ _ _ (once_waited _ _ _ c.lock_device-device.ensures) c.lock_files.ensures.waited
