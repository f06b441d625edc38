use Rattle.std.proofs.Common.{refl, sym, ◌∙◌}
use Rattle.std.specs.Prelude.{option_map}
use Rattle.device_files.specs.Record.{calls_in}
use Rattle.envimg_core.specs.declared.choice.Choice.TheVariants.{Second}
use Rattle.fw_files.specs.WrittenBack.{Devices}
use Rattle.fw_tools.proofs.SessionRunLemmas.{not_written, reported, reported_after}
use Rattle.fw_tools.proofs.WarnLemmas.{safe_of, written_of}
use Rattle.fw_tools.proofs.session_run.leave.Goals as goal

pub returns-then-not-is_kept : goal.returns-then-not-is_kept
returns-then-not-is_kept g c =
    reported _ c.args.end.ending c.args.source.now c.args.end.session _ (g.E.Write.contents c.args.errors.now) (g.E.Write.contents c.report_ending.new.errors) _
    (sym c.is_kept.ensures ∙ c.if-not-is_kept.true) c.report_ending.ensures refl

pub returns-in-None : goal.returns-in-None
returns-in-None g c =
    let devices : Devices = record { start = g.D.Start.contents; before = option_map (λ d. calls_in d.calls) c.args.devices.now; after = option_map (λ d. calls_in d.calls) c.write_locked.new.devices } in
    not_written _ c.args.end.ending c.args.source.now c.args.end.session devices (g.E.Write.contents c.args.errors.now) (g.E.Write.contents c.write_locked.new.errors) 1 (sym c.is_kept.ensures ∙ c.if-not-is_kept.false)
    (safe_of devices.start Second c.args.source.now c.args.end.session c.close.result devices.after c.close.ensures.first c.close.ensures.second c.write_locked.ensures.any_moment) c.in-None.ensures.said refl

pub returns : goal.returns
returns g c =
    let devices : Devices = record { start = g.D.Start.contents; before = option_map (λ d. calls_in d.calls) c.args.devices.now; after = option_map (λ d. calls_in d.calls) c.write_locked.new.devices } in
    reported_after _ c.args.end.ending c.args.source.now c.args.end.session devices (g.E.Write.contents c.args.errors.now) (g.E.Write.contents c.write_locked.new.errors) (g.E.Write.contents c.report_ending-in-Some.new.errors) _
    (sym c.is_kept.ensures ∙ c.if-not-is_kept.false)
    (safe_of devices.start Second c.args.source.now c.args.end.session c.close.result devices.after c.close.ensures.first c.close.ensures.second c.write_locked.ensures.any_moment) c.in-Some.ensures.said c.report_ending-in-Some.ensures
    (written_of devices.start c.args.source.now c.args.end.session c.close.result devices.after c.close.ensures.first c.close.ensures.second c.in-Some.ensures.written)
