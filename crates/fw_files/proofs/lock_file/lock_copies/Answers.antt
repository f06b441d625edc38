use Rattle.fw_files.proofs.SaidLemmas.{waited_on}
use Rattle.fw_files.proofs.lock_file.lock_copies.Goals as goal

pub returns-else-is_in_place-clause-waited : goal.returns-else-is_in_place-clause-waited
returns-else-is_in_place-clause-waited g c = waited_on _ _ _ c.lock_once.ensures.waited c.lock_once-else-is_in_place.ensures.waited
