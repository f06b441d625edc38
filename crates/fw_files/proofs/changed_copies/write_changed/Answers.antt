use Rattle.std.proofs.Common.{ap, length, subst, sym}
use Rattle.device_files.specs.Calls.{LeftSince, seen_after}
use Rattle.device_files.specs.Record.{calls_in}
use Rattle.env_session.specs.Session.{bytes_of}
use Rattle.fw_files.specs.WrittenBack.{IsLeft}
use Rattle.fw_files.proofs.changed_copies.write_changed.Goals as goal

pub returns-in-Ok-clause-any_moment : goal.returns-in-Ok-clause-any_moment
returns-in-Ok-clause-any_moment g c = (
  c.in_ok-device.before,
  c.in_ok-device.ensures.before,
  λ h left since.
      let start = g.S.Start.contents in
      let calls = calls_in c.write_into-written.new.device.calls in
      let stored = c.args.stored.now in
      subst (λ cs. IsLeft c.args.last c.args.source.now c.in_ok-device.before stored.first.items (bytes_of stored.second) (seen_after start cs) left) c.in_ok-device.ensures.begins
      (c.write_into-written.ensures.any_moment h left (subst (λ n. LeftSince start calls n left) (sym (ap length c.in_ok-device.ensures.begins)) since)),
)

pub returns-in-Err-clause-any_moment : goal.returns-in-Err-clause-any_moment
returns-in-Err-clause-any_moment g c = (
  c.in_ok-device.before,
  c.in_ok-device.ensures.before,
  λ h left since.
      let start = g.S.Start.contents in
      let calls = calls_in c.write_into-written.new.device.calls in
      let stored = c.args.stored.now in
      subst (λ cs. IsLeft c.args.last c.args.source.now c.in_ok-device.before stored.first.items (bytes_of stored.second) (seen_after start cs) left) c.in_ok-device.ensures.begins
      (c.write_into-written.ensures.any_moment h left (subst (λ n. LeftSince start calls n left) (sym (ap length c.in_ok-device.ensures.begins)) since)),
)
