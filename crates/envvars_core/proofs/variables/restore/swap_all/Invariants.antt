use Rattle.std.proofs.Common.{◌≡◌, ◌%◌, ◌^◌}
use Rattle.std.specs.FinMap as env
use Rattle.envimg_core.specs.Environment.{used}
use Rattle.envvars_core.specs.Olds.{restored}
use Rattle.envvars_core.specs.Steps.{HavePlaces}
use Rattle.envvars_core.proofs.variables.restore.swap_all.Given as goal

abbrev pub invariant-kept : goal.invariant-kept
invariant-kept l = record {
  left : restored l.variables l.olds ≡ restored l.initial.variables l.initial.olds;
  sized : l.size ≡ used l.variables % 2 ^ 64;
  places : HavePlaces l.variables (env.entries l.olds);
}

abbrev pub decreases-kept : goal.decreases-kept
decreases-kept l = env.len l.olds
