use Rattle.std.proofs.Common.{◌≡◌, ◌<◌, ◌+◌, ℕ, length, None, ap, ◌∙◌, arith}
use Rattle.std.specs.Prelude.{replicate}
use Rattle.fw_session.specs.NamedSessions.{names_of}
use Rattle.fw_session.proofs.MarkLemmas.{one_unnamed}
use Rattle.fw_session.proofs.mark_names.unnamed.Goals as goal

pub loop-mark-init : goal.loop-mark-init
loop-mark-init c = (ap names_of c.new-names.ensures, ap length c.new-names.ensures)

pub push-requires : goal.push-requires
push-requires c =
    let room : length c.loop-mark.names.items < 65 = omega (arith, c.loop-mark.invariant.1, c.marks-mark-end.ensures.few, c.loop-mark-test.true) in (omega arith, room)

pub loop-mark-preserved : goal.loop-mark-preserved
loop-mark-preserved c = (
  one_unnamed c.loop-mark.names.items c.push.new.self.items c.loop-mark._mark c.loop-mark.invariant.0 c.push.ensures.items,
  c.push.ensures.len ∙ ap (λ (n : ℕ). n + 1) c.loop-mark.invariant.1,
)

pub returns : goal.returns
returns c = absurd (omega (arith, c.loop-mark.auto._mark-end))

pub returns-2 : goal.returns-2
returns-2 c =
    let last : c.loop-mark._mark + 1 ≡ length c.args.session.now.marks = omega (arith, c.marks-mark-end.ensures.marks, c.loop-mark.auto._mark-end) in
    one_unnamed c.loop-mark.names.items c.push.new.self.items c.loop-mark._mark c.loop-mark.invariant.0 c.push.ensures.items ∙ ap (λ (n : ℕ). replicate n None) last
