use Rattle.fw_files.proofs.SaidLemmas.{once_waited}
use Rattle.fw_files.proofs.lock_file.locked.Goals as goal

pub returns-then-wait_for_lock : goal.returns-then-wait_for_lock
returns-then-wait_for_lock g c = once_waited _ _ _ c.wait_for_lock.ensures

pub returns-else-wait_for_lock : goal.returns-else-wait_for_lock
returns-else-wait_for_lock g c = once_waited _ _ _ c.wait_for_lock.ensures
