use Rattle.std.proofs.Common.{ap}
use Rattle.fw_arguments.specs.Calls.{ran}
use Rattle.fw_arguments.proofs.job.script_job.Goals as goal

pub returns-in-Ok : goal.returns-in-Ok
returns-in-Ok c = ap ran c.in-Ok.ensures

pub returns-in-Err : goal.returns-in-Err
returns-in-Err c = ap ran c.in-Err.ensures
