use Rattle.std.proofs.Common.{arith, length, ◌+◌, ◌≤◌, ◌<◌, ◌≡◌, length-take}
use Rattle.fw_session.specs.declared.session_end.SessionEnding.TheVariants.{TooLong, WriteFault, Memory}
use Rattle.fw_session.specs.NamedSessions.{unnamed}
use Rattle.fw_session.specs.Ends.{input_limit, read_limit}
use Rattle.fw_session.proofs.FaultLemmas.{tells_none, tells_more}
use Rattle.fw_session.proofs.EndLemmas.{ended_as, left_off_as, reading_none, reading_more, read_failed, one_too_many, at_its_end, write_failed, no_room, gave_piece, piece_long, stopped_by_write, stopped_by_memory}
use Rattle.fw_session.proofs.talk.answer_all.Goals as goal

pub loop-read-init : goal.loop-read-init
loop-read-init g c = (
  reading_none _ (unnamed c.args.session) _ _ _ c.begun-talk.ensures.bytes c.begun-talk.ensures.start c.begun-talk.ensures.session c.begun-talk.ensures.written,
  tells_none _ _,
)

pub returns-in-Err-clause-ends : goal.returns-in-Err-clause-ends
returns-in-Err-clause-ends g c =
    left_off_as _ _ c.loop-read.talk c.left_off.result _ _ _ _ _ _ _ c.left_off.ensures.ends c.left_off.ensures.read
    (read_failed _ _ _ _ _ _ _ _ c.loop-read.talk c.loop-read.invariant.0 c.in-Err.ensures.bytes)

pub returns-in-Ok-eq0-clause-ends : goal.returns-in-Ok-eq0-clause-ends
returns-in-Ok-eq0-clause-ends g c =
    let same = c.read.auto.buf in
    let room : 0 < length c.read.new.buf = omega (arith, length-take c.min-most.result c.loop-read.piece) in
    let ends = c.left_off-in-Ok-eq0.ensures.ends in (
      ends.0,
      at_its_end _ _ _ _ _ _ _ _ _ c.loop-read.read _ _ c.in-Ok-eq0.field-0 c.read.new.buf c.left_off-in-Ok-eq0.result.ending c.loop-read.talk c.loop-read.invariant.0 c.in-Ok-eq0.field-0-test c.in-Ok-eq0.ensures.bytes room c.left_off-in-Ok-eq0.ensures.read
          ends.1,
    )

pub loop-read-preserved : goal.loop-read-preserved
loop-read-preserved g c =
    let le = c.in-Ok.ensures.bound.0 in
    let same = c.read.auto.buf in
    let room : c.loop-read.read + c.in-Ok.count ≤ input_limit = omega (arith, length-take c.min-most.result c.loop-read.piece) in (
      reading_more _ _ _ _ _ _ _ _ _ c.in-Ok.count _ c.loop-read.talk c.handle_piece.new.talk c.loop-read.invariant.0 (gave_piece _ _ _ _ _ le c.in-Ok.ensures.bytes.0) (piece_long _ _ _ le) room c.in-Ok-handle_piece.ensures.handles,
      tells_more _ _ _ _ c.loop-read.invariant.1 c.handle_piece.ensures.told,
    )

pub returns-in-Err-Write-clause-ends : goal.returns-in-Err-Write-clause-ends
returns-in-Err-Write-clause-ends g c =
    let le = c.in-Ok.ensures.bound.0 in
    let same = c.read.auto.buf in
    let few : c.in-Ok.count ≤ read_limit = omega (arith, length-take c.min-most.result c.loop-read.piece) in
    let room : c.loop-read.read + c.in-Ok.count ≤ input_limit = omega (arith, length-take c.min-most.result c.loop-read.piece) in
    ended_as WriteFault c.ended.result.ending _ _ c.handle_piece.new.talk _ _ _ _ _ _ _ _ c.ended.ensures.session c.ended.ensures.ending c.ended.ensures.read c.ended.ensures.written
    (write_failed _ _ _ _ _ _ _ _ _ c.in-Ok.count _ c.loop-read.talk c.handle_piece.new.talk c.loop-read.invariant.0 (gave_piece _ _ _ _ _ le c.in-Ok.ensures.bytes.0) (piece_long _ _ _ le) room few
    (stopped_by_write _ _ c.loop-read.talk c.handle_piece.new.talk _ _ c.in-Err-Write.field-0 c.in-Err-Write.field-0-is c.in-Err-Write.ensures.handles))

pub returns-in-Err-Memory-clause-ends : goal.returns-in-Err-Memory-clause-ends
returns-in-Err-Memory-clause-ends g c =
    let le = c.in-Ok.ensures.bound.0 in
    let same = c.read.auto.buf in
    let room : c.loop-read.read + c.in-Ok.count ≤ input_limit = omega (arith, length-take c.min-most.result c.loop-read.piece) in
    ended_as Memory c.ended-in-Err-Memory.result.ending _ _ c.handle_piece.new.talk _ _ _ _ _ _ _ _ c.ended-in-Err-Memory.ensures.session c.ended-in-Err-Memory.ensures.ending c.ended-in-Err-Memory.ensures.read c.ended-in-Err-Memory.ensures.written
    (no_room _ _ _ _ _ _ _ _ _ c.in-Ok.count _ c.loop-read.talk c.handle_piece.new.talk c.loop-read.invariant.0 (gave_piece _ _ _ _ _ le c.in-Ok.ensures.bytes.0) (piece_long _ _ _ le) room
    (stopped_by_memory _ _ c.loop-read.talk c.handle_piece.new.talk _ _ c.in-Err-Memory.field-0 c.in-Err-Memory.field-0-is c.in-Err-Memory.ensures.handles))

pub returns-in-Err-read-clause-ends : goal.returns-in-Err-read-clause-ends
returns-in-Err-read-clause-ends g c =
    left_off_as _ _ c.loop-read.talk c.left_off-in-Err-read.result _ _ _ _ _ _ _ c.left_off-in-Err-read.ensures.ends c.left_off-in-Err-read.ensures.read
    (read_failed _ _ _ _ _ _ _ _ c.loop-read.talk c.loop-read.invariant.0 c.in-Err-read.ensures.bytes)

pub returns-in-Ok-eq0-read-clause-ends : goal.returns-in-Ok-eq0-read-clause-ends
returns-in-Ok-eq0-read-clause-ends g c =
    let same = c.read-2.auto.buf in
    let room : 0 < length c.read-2.new.buf = omega (arith, length-take 1 c.loop-read.piece) in
    let ends = c.left_off-in-Ok-eq0-read.ensures.ends in (
      ends.0,
      at_its_end _ _ _ _ _ _ _ _ _ c.loop-read.read _ _ c.in-Ok-eq0-read.field-0 c.read-2.new.buf c.left_off-in-Ok-eq0-read.result.ending c.loop-read.talk c.loop-read.invariant.0 c.in-Ok-eq0-read.field-0-test c.in-Ok-eq0-read.ensures.bytes room
          c.left_off-in-Ok-eq0-read.ensures.read ends.1,
    )

pub returns-in-Ok-read-clause-ends : goal.returns-in-Ok-read-clause-ends
returns-in-Ok-read-clause-ends g c =
    let same = c.read-2.auto.buf in
    let one : length c.read-2.new.buf ≡ 1 = omega (arith, length-take 1 c.loop-read.piece) in
    ended_as TooLong c.ended-in-Ok-read.result.ending _ _ c.loop-read.talk _ _ _ _ _ _ _ _ c.ended-in-Ok-read.ensures.session c.ended-in-Ok-read.ensures.ending c.ended-in-Ok-read.ensures.read c.ended-in-Ok-read.ensures.written
    (one_too_many _ _ _ _ _ _ _ c.loop-read.read c.in-Ok-read.field-0 c.read-2.new.buf c.loop-read.talk c.loop-read.invariant.0 (omega arith) c.in-Ok-read.field-0-test.1 c.in-Ok-read.ensures.bound.0 one c.in-Ok-read.ensures.bytes.0)

pub returns-in-Ok-eq0-clause-told : goal.returns-in-Ok-eq0-clause-told
returns-in-Ok-eq0-clause-told g c = tells_more _ _ _ _ c.loop-read.invariant.1 c.left_off-in-Ok-eq0.ensures.told

pub returns-in-Err-Write-clause-told : goal.returns-in-Err-Write-clause-told
returns-in-Err-Write-clause-told g c = tells_more _ _ _ _ c.loop-read.invariant.1 c.handle_piece.ensures.told

pub returns-in-Err-Memory-clause-told : goal.returns-in-Err-Memory-clause-told
returns-in-Err-Memory-clause-told g c = tells_more _ _ _ _ c.loop-read.invariant.1 c.handle_piece.ensures.told

pub returns-in-Ok-eq0-read-clause-told : goal.returns-in-Ok-eq0-read-clause-told
returns-in-Ok-eq0-read-clause-told g c = tells_more _ _ _ _ c.loop-read.invariant.1 c.left_off-in-Ok-eq0-read.ensures.told

pub returns-in-Err-clause-told : goal.returns-in-Err-clause-told
returns-in-Err-clause-told g c = tells_more _ _ _ _ c.loop-read.invariant.1 c.left_off.ensures.told

pub returns-in-Err-read-clause-told : goal.returns-in-Err-read-clause-told
returns-in-Err-read-clause-told g c = tells_more _ _ _ _ c.loop-read.invariant.1 c.left_off-in-Err-read.ensures.told
