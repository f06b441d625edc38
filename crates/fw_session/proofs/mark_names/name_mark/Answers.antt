use Rattle.std.proofs.Common.{◌≤◌, ◌<◌, ◌∙◌, sym, length, length-take, arith, ap}
use Rattle.fw_session.proofs.MarkLemmas.{named}
use Rattle.fw_session.proofs.mark_names.name_mark.Goals as goal

pub push-requires : goal.push-requires
push-requires c =
    let low : c.in-Some.number ≤ 64 = c.requires c.in-Some.number (sym c.number_in.ensures ∙ c.in-Some.is) in
    let cut = ap length c.truncate.ensures.items in
    let room : length c.truncate.new.self.items < 65 = omega (arith, low, cut, length-take c.in-Some.number c.args.names.now.items) in (omega arith, room)

pub returns-in-Some : goal.returns-in-Some
returns-in-Some c =
    named c.args.names.now.items c.truncate.new.self.items c.push.new.self.items c.args.name c.in-Some.number _ (sym c.number_in.ensures ∙ c.in-Some.is) c.truncate.ensures.items c.push.ensures.items
