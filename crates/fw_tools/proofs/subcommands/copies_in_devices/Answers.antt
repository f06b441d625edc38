use Rattle.std.proofs.Common.{◌≡◌, Err, inr, rules, subst, sym}
use Rattle.std.specs.Prelude.{IfErr}
use Rattle.fw_arguments.specs.Calls.{locks_view}
use Rattle.fw_tools.specs.NoSession.{IsDeviceStop}
use Rattle.fw_tools.proofs.SubcommandLemmas.{configured}
use Rattle.fw_tools.proofs.subcommands.copies_in_devices.Goals as goal

pub returns-clause-found : goal.returns-clause-found
returns-clause-found g c =
    configured (g.X.System.holds c.args.rt.now) c.args.call.now.config.now c.args.call.now.order c.in_ok-config.config c.in_ok-source.source c.in_ok-config.ensures.read c.in_ok-source.ensures.read.0

pub returns-in_err-source-clause-stopped : goal.returns-in_err-source-clause-stopped
returns-in_err-source-clause-stopped g c =
    let why = c.in_err-source.field-0.0 in
    let call = c.args.call.now in
    let same : c.from_residual-in_err-source.result ≡ Err why = search rules in
    subst (λ r. IfErr r (IsDeviceStop (g.X.System.holds c.args.rt.now) call.config.now (locks_view call.locks))) (sym same)
    (inr (inr (c.in_ok-config.config, c.in_ok-config.ensures.read, c.in_err-source.ensures.stopped)))
