use Rattle.std.proofs.Common.{◌≡◌, Err, rules, subst, sym}
use Rattle.std.specs.Prelude.{IfErr}
use Rattle.fw_arguments.specs.Calls.{call_view}
use Rattle.fw_tools.specs.NoSession.{IsCopiesStop}
use Rattle.fw_tools.proofs.SubcommandLemmas.{not_wanted, wanted_so}
use Rattle.fw_tools.proofs.subcommands.copies_for.Goals as goal

pub returns-clause-found : goal.returns-clause-found
returns-clause-found g c =
    wanted_so (g.X.System.holds c.args.rt.now) c.args.call.now.config.now c.args.call.now.image c.args.call.now.order c.args.call.now.copy c.in_ok-read.read c.in_ok-source.source c.in_ok-read.ensures.found c.in_ok-source.ensures.found

pub returns-in_err-source-clause-stopped : goal.returns-in_err-source-clause-stopped
returns-in_err-source-clause-stopped g c =
    let why = c.in_err-source.field-0.0 in
    let holds = g.X.System.holds c.args.rt.now in
    let call = call_view c.args.call.now in
    let same : c.from_residual-in_err-source.result ≡ Err why = search rules in
    subst (λ r. IfErr r (IsCopiesStop holds call)) (sym same) (not_wanted holds call c.in_ok-read.read why c.in_ok-read.ensures.found c.in_err-source.ensures.stopped)
