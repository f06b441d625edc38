use Rattle.std.proofs.Common.{ap}
use Rattle.fw_arguments.specs.Calls.{booted}
use Rattle.fw_arguments.proofs.job.boot_job.Goals as goal

pub returns-in-Ok : goal.returns-in-Ok
returns-in-Ok c = ap booted c.in-Ok.ensures

pub returns-in-Err : goal.returns-in-Err
returns-in-Err c = ap booted c.in-Err.ensures
