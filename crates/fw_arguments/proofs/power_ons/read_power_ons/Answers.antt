use Rattle.std.proofs.Common.{ap, ◌∙◌}
use Rattle.clap.specs.Words.{found_of, rows_of}
use Rattle.fw_arguments.specs.DryRuns.{and_then}
use Rattle.fw_arguments.specs.PowerOns.{power_ons_by}
use Rattle.fw_arguments.proofs.power_ons.read_power_ons.Goals as goal

pub returns-in-Ok : goal.returns-in-Ok
returns-in-Ok c = c.power_ons_by.ensures ∙ ap (λ s. and_then s (power_ons_by (rows_of (found_of c.args.found.now)))) c.in-Ok.ensures

pub returns-in-Err : goal.returns-in-Err
returns-in-Err c = ap (λ s. and_then s (power_ons_by (rows_of (found_of c.args.found.now)))) c.in-Err.ensures
