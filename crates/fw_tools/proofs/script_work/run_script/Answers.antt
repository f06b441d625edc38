use Rattle.std.proofs.Common.{subst}
use Rattle.hush_syntax.specs.Scripts.{tree_of}
use Rattle.std.specs.Prelude.{option_map}
use Rattle.device_files.specs.Record.{calls_in}
use Rattle.fw_files.specs.WrittenBack.{Devices}
use Rattle.fw_tools.specs.Closing.{Closes}
use Rattle.fw_tools.specs.ScriptRuns.{is_kept}
use Rattle.hush_commands.specs.Hardware.{hardware}
use Rattle.hush_run.specs.Runs.{rules_in}
use Rattle.fw_session.specs.ScriptRun.{TracesScript}
use Rattle.fw_arguments.specs.DryRuns.{script_run_view}
use Rattle.fw_tools.proofs.script_work.run_script.Goals as goal

pub returns : goal.returns
returns g c =
    let run = script_run_view c.args.asked.now in
    let devices : Devices = record { start = g.D.Start.contents; before = option_map (λ d. calls_in d.calls) c.args.devices.now; after = option_map (λ d. calls_in d.calls) c.leave.new.devices } in
    let rules = rules_in run.dry.shell (hardware c.args.given.now.board c.args.given.now.stand_ins) run.dry.limits in (
      c.run-ended.new.session,
      g.E.Write.contents c.run-ended.new.errors,
      c.run-ended.result,
      subst
          (λ traced.
          TracesScript rules run.must_boot traced (tree_of c.args.script.now) c.args.opened c.run-ended.new.session
          (record { output = g.W.Write.contents c.args.output.now; errors = g.E.Write.contents c.args.errors.now })
          (record { output = g.W.Write.contents c.run-ended.new.output; errors = g.E.Write.contents c.run-ended.new.errors }) c.run-ended.result) c.traced_name.ensures
          c.run-ended.ensures,
      subst
          (λ last.
          Closes (is_kept run.dry.write c.run-ended.result) last c.args.source.now c.run-ended.new.session c.run-ended.result.end devices (g.E.Write.contents c.run-ended.new.errors)
          (g.E.Write.contents c.leave.new.errors) c.leave.result) c.current-current.ensures c.leave.ensures,
    )
