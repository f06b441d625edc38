use Rattle.std.proofs.Common.{Ok, ap}
use Rattle.clap.specs.Words.{found_of, rows_of}
use Rattle.fw_arguments.specs.DryRuns.{and_then}
use Rattle.fw_arguments.specs.PowerOns.{power_ons_in}
use Rattle.fw_arguments.proofs.CallLemmas.{power_ons_are}
use Rattle.fw_arguments.proofs.power_ons.with_ways.Goals as goal

pub returns-in-Ok : goal.returns-in-Ok
returns-in-Ok c =
    power_ons_are c.args.shell (rows_of (found_of c.args.found.now)) _ c.args.limits c.args.stored c.args.ways _ _ _ _ c.in-Ok.ensures
    c.dry_run_within.ensures c.is_given.ensures c.is_given-in-Ok.ensures c.is_given-in-Ok-2.ensures

pub returns-in-Err : goal.returns-in-Err
returns-in-Err c =
    let rows = rows_of (found_of c.args.found.now) in
    ap (λ n. and_then n (λ after. Ok (power_ons_in c.args.shell rows c.args.limits c.args.stored c.args.ways after))) c.in-Err.ensures
