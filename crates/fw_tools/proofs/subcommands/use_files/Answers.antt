use Rattle.std.proofs.Common.{◌≡◌, Err, ap, inl, inr, refl, rules, subst, ◌∙◌}
use Rattle.std.specs.Prelude.{option_map}
use Rattle.device_files.specs.Record.{calls_in}
use Rattle.fw_arguments.specs.Calls.{call_view, spares}
use Rattle.fw_files.specs.WrittenBack.{Devices}
use Rattle.fw_files.specs.Misread.{Spares}
use Rattle.fw_files.specs.Opening.{IsOpening, StopsOpening}
use Rattle.fw_files.specs.Source.{kept_view, second_bytes, warned}
use Rattle.fw_engines.specs.Streams.{AppendsFront}
use Rattle.fw_tools.specs.declared.halt.Halt.TheVariants as halt
use Rattle.fw_tools.proofs.SubcommandLemmas.{halted, halted_as, worked}
use Rattle.fw_tools.proofs.subcommands.use_files.Goals as goal

pub returns-in_err-source : goal.returns-in_err-source
returns-in_err-source g c =
    let why = c.in_err-source.field-0.0 in
    let calls = option_map (λ d. calls_in d.calls) c.args.devices.now in
    let devices : Devices = record { start = g.D.Start.contents; before = calls; after = calls } in
    let same : c.from_residual.result ≡ Err (halt.Files why) = search rules in
    halted_as c.from_residual.result (halt.Files why) _ _ same
    (halted (g.X.System.holds c.args.rt.now) (call_view c.args.call.now) devices _ _ why (inl c.in_err-source.ensures.stopped) refl refl refl c.copies_for.ensures.waited)

pub returns-in_err-opened : goal.returns-in_err-opened
returns-in_err-opened g c =
    let why = c.in_err-opened.field-0.0 in
    let call = call_view c.args.call.now in
    let source = c.in_ok-source.source in
    let calls = option_map (λ d. calls_in d.calls) c.args.devices.now in
    let devices : Devices = record { start = g.D.Start.contents; before = calls; after = calls } in
    let same : c.from_residual-in_err-opened.result ≡ Err (halt.Files why) = search rules in
    let stops = subst (λ s. StopsOpening source call.defaults s why) c.spares.ensures c.in_err-opened.ensures.stopped in
    halted_as c.from_residual-in_err-opened.result (halt.Files why) _ _ same
    (halted (g.X.System.holds c.args.rt.now) call devices _ _ why (inr (source, c.in_ok-source.ensures.found, stops)) refl refl refl c.copies_for.ensures.waited)

pub returns : goal.returns
returns g c =
    let holds = g.X.System.holds c.args.rt.now in
    let call = call_view c.args.call.now in
    let source = c.in_ok-source.source in
    let kept = kept_view c.in_ok-opened.opened.text in
    let session = c.in_ok-opened.opened.session in
    let opened = c.in_ok-opened.ensures.opened in
    let spared = subst (λ s. Spares session.now.current s source.geometry source.first.bytes.items (second_bytes source.second)) c.spares.ensures opened.2.spared in
    let opening : IsOpening holds call.config call.image call.order call.copy (spares call) opened.0 source kept session = (c.in_ok-source.ensures.found, opened.2.opens, spared) in
    worked holds call _ _ _ opened.0 source kept session _ c.work.result (record { waited = _; waits = c.copies_for.ensures.waited; taken = opened.1; opening = opening; accepted = opened.2.accepted; warns = subst (AppendsFront (g.E.Write.contents c.copies_for.new.errors) (g.E.Write.contents c.say.new.errors)) (c.warning_of.ensures ∙ ap (warned call.defaults.whole) c.current.ensures) c.say.ensures }) c.work.ensures
