use Rattle.std.proofs.Common.{refl, true}
use Rattle.std.specs.Prelude.{option_map}
use Rattle.device_files.specs.Record.{calls_in}
use Rattle.envimg_core.specs.declared.choice.Choice.TheVariants.{Second}
use Rattle.fw_files.specs.WrittenBack.{Devices}
use Rattle.fw_tools.proofs.WarnLemmas.{broken_off, kept, may_warn, safe_of, written_of}
use Rattle.fw_tools.proofs.subcommands.finish.Goals as goal

pub returns-in-None : goal.returns-in-None
returns-in-None g c =
    let devices : Devices = record { start = g.D.Start.contents; before = option_map (λ d. calls_in d.calls) c.args.devices.now; after = option_map (λ d. calls_in d.calls) c.write_back.new.devices } in
    broken_off true Second c.args.source.now c.args.session c.args.end devices _ _ 1 refl
    (safe_of devices.start Second c.args.source.now c.args.session c.close-stored.result devices.after c.close-stored.ensures.first c.close-stored.ensures.second c.write_back.ensures.any_moment) c.in-None.ensures.said refl

pub returns : goal.returns
returns g c =
    let devices : Devices = record { start = g.D.Start.contents; before = option_map (λ d. calls_in d.calls) c.args.devices.now; after = option_map (λ d. calls_in d.calls) c.write_back.new.devices } in
    kept true Second c.args.source.now c.args.session c.args.end devices _ _ _ _ refl
    (safe_of devices.start Second c.args.source.now c.args.session c.close-stored.result devices.after c.close-stored.ensures.first c.close-stored.ensures.second c.write_back.ensures.any_moment)
    (may_warn c.args.source.now c.close-stored.result _ _ c.in-Some.ensures.said) c.report.ensures.said c.report.ensures.status
    (written_of devices.start c.args.source.now c.args.session c.close-stored.result devices.after c.close-stored.ensures.first c.close-stored.ensures.second c.in-Some.ensures.written)
