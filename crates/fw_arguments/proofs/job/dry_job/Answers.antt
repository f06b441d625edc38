use Rattle.std.proofs.Common.{ap}
use Rattle.fw_arguments.specs.Calls.{tried}
use Rattle.fw_arguments.proofs.job.dry_job.Goals as goal

pub returns-in-Ok : goal.returns-in-Ok
returns-in-Ok c = ap tried c.in-Ok.ensures

pub returns-in-Err : goal.returns-in-Err
returns-in-Err c = ap tried c.in-Err.ensures
