use Rattle.std.proofs.Common.{ap, refl}
use Rattle.std.specs.Prelude.{option_map}
use Rattle.device_files.specs.Record.{calls_in}
use Rattle.fw_arguments.specs.Calls.{call_view}
use Rattle.fw_arguments.specs.Checks.{environment_check_view}
use Rattle.fw_engines.specs.Streams.{Streams}
use Rattle.fw_files.specs.Source.{kept_view}
use Rattle.fw_files.specs.WrittenBack.{Devices}
use Rattle.fw_tools.specs.CheckRuns.{environment_text}
use Rattle.fw_tools.proofs.SubcommandLemmas.{check_done, either, job_done}
use Rattle.fw_tools.proofs.subcommands.work.Goals as goal

pub returns-in-Tool : goal.returns-in-Tool
returns-in-Tool g c =
    job_done (g.X.System.holds c.args.rt.now) _ _ _ _ _ _ _ _ _ c.use_tool.result c.in-Tool.is
    (either c.use_tool.result _ _ _ _ (λ status uses. (refl, uses)) (λ h (same, left). (tt, refl, same, ap (option_map (λ d. calls_in d.calls)) left)) c.use_tool.ensures)

pub returns-in-DryRun : goal.returns-in-DryRun
returns-in-DryRun g c =
    job_done (g.X.System.holds c.args.rt.now) _ _ _ _ _ _ _ _ _ c.talk.result c.in-DryRun.is
    (either c.talk.result _ _ _ _ (λ status tries. tries) (λ h (unread, same, left). (tt, unread, same, ap (option_map (λ d. calls_in d.calls)) left)) c.talk.ensures)

pub returns-in-Script : goal.returns-in-Script
returns-in-Script g c =
    job_done (g.X.System.holds c.args.rt.now) _ _ _ _ _ _ _ _ _ c.run_given.result c.in-Script.is
    (either c.run_given.result _ _ _ _ (λ status runs. (refl, runs)) (λ h (halts, same, left). (halts, refl, same, ap (option_map (λ d. calls_in d.calls)) left)) c.run_given.ensures)

pub returns-in-Boot : goal.returns-in-Boot
returns-in-Boot g c =
    job_done (g.X.System.holds c.args.rt.now) _ _ _ _ _ _ _ _ _ c.boot_given.result c.in-Boot.is
    (either c.boot_given.result _ _ _ _ (λ status boots. (refl, boots, refl)) (λ h same. (tt, refl, same, refl)) c.boot_given.ensures)

pub returns : goal.returns
returns g c =
    let holds = g.X.System.holds c.args.rt.now in
    let check = environment_check_view c.in-Check.check in
    let text = environment_text (call_view c.args.call.now) (kept_view c.args.opened.text) in
    let calls = option_map (λ d. calls_in d.calls) c.args.devices.now in
    let devices : Devices = record { start = g.D.Start.contents; before = calls; after = calls } in
    let input = g.R.Read.remaining c.args.input.now in
    let old : Streams = record { input = input; output = g.W.Write.contents c.args.output.now; errors = g.E.Write.contents c.args.errors.now } in
    let new : Streams = record { input = input; output = g.W.Write.contents c.check_session.new.output; errors = g.E.Write.contents c.check_session.new.errors } in
    job_done holds c.args.call.now.only_changes text _ _ c.args.source.now c.args.opened.session devices old new c.check_session.result c.in-Check.is
    (check_done holds c.args.call.now.only_changes check _ text c.args.source.now c.args.opened.session devices old new c.check_session.result c.environment_text-text.ensures refl refl c.check_session.ensures)
