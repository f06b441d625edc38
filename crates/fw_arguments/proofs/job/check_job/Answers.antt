use Rattle.std.proofs.Common.{ap}
use Rattle.fw_arguments.specs.Calls.{checked}
use Rattle.fw_arguments.proofs.job.check_job.Goals as goal

pub returns-in-Ok : goal.returns-in-Ok
returns-in-Ok c = ap checked c.in-Ok.ensures

pub returns-in-Err : goal.returns-in-Err
returns-in-Err c = ap checked c.in-Err.ensures
