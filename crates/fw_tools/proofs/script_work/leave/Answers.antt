use Rattle.std.proofs.Common.{refl, sym, ◌∙◌}
use Rattle.std.specs.Prelude.{option_map}
use Rattle.device_files.specs.Record.{calls_in}
use Rattle.fw_files.specs.WrittenBack.{Devices}
use Rattle.fw_tools.proofs.WarnLemmas.{broken_off, kept, left, may_warn, safe_of, written_of}
use Rattle.fw_tools.proofs.script_work.leave.Goals as goal

pub returns-then-not-is_kept : goal.returns-then-not-is_kept
returns-then-not-is_kept g c = left _ _ _ _ _ _ _ _ _ (sym c.is_kept.ensures ∙ c.if-not-is_kept.true) refl c.report.ensures.said c.report.ensures.status

pub returns-in-None : goal.returns-in-None
returns-in-None g c =
    let devices : Devices = record { start = g.D.Start.contents; before = option_map (λ d. calls_in d.calls) c.args.devices.now; after = option_map (λ d. calls_in d.calls) c.write_back.new.devices } in
    broken_off _ c.args.current c.args.source.now c.args.session c.args.ended.end devices (g.E.Write.contents c.args.errors.now) (g.E.Write.contents c.write_back.new.errors) 1
    (sym c.is_kept.ensures ∙ c.if-not-is_kept.false)
    (safe_of devices.start c.args.current c.args.source.now c.args.session c.close.result devices.after c.close.ensures.first c.close.ensures.second c.write_back.ensures.any_moment) c.in-None.ensures.said refl

pub returns : goal.returns
returns g c =
    let devices : Devices = record { start = g.D.Start.contents; before = option_map (λ d. calls_in d.calls) c.args.devices.now; after = option_map (λ d. calls_in d.calls) c.write_back.new.devices } in
    kept _ c.args.current c.args.source.now c.args.session c.args.ended.end devices (g.E.Write.contents c.args.errors.now) _ (g.E.Write.contents c.report-in-Some.new.errors) _
    (sym c.is_kept.ensures ∙ c.if-not-is_kept.false)
    (safe_of devices.start c.args.current c.args.source.now c.args.session c.close.result devices.after c.close.ensures.first c.close.ensures.second c.write_back.ensures.any_moment)
    (may_warn c.args.source.now c.close.result _ _ c.in-Some.ensures.said) c.report-in-Some.ensures.said c.report-in-Some.ensures.status
    (written_of devices.start c.args.source.now c.args.session c.close.result devices.after c.close.ensures.first c.close.ensures.second c.in-Some.ensures.written)
