use Rattle.fw_files.proofs.SaidLemmas.{silent_front}
use Rattle.fw_files.proofs.device_access.lock_path.Goals as goal

pub returns-then-is_pipe : goal.returns-then-is_pipe
returns-then-is_pipe g c = silent_front _ _

pub returns-in-Err : goal.returns-in-Err
returns-in-Err g c = silent_front _ _
