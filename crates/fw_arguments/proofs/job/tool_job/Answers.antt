use Rattle.std.proofs.Common.{Err, ap, ◌∙◌}
use Rattle.fw_arguments.specs.Calls.{called}
use Rattle.fw_arguments.proofs.job.tool_job.Goals as goal

pub returns-in-Ok : goal.returns-in-Ok
returns-in-Ok c = ap called c.in-Ok.ensures

pub returns-in-Err : goal.returns-in-Err
returns-in-Err c = ap (λ t. Err t) c.of.ensures ∙ ap called c.in-Err.ensures
