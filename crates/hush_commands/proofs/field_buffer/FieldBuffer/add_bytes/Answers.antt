use Rattle.std.proofs.Common.{arith}
use Rattle.hush_commands.proofs.ItemLemmas.{bytes-over, bytes-within, size-bytes}
use Rattle.hush_commands.proofs.field_buffer.FieldBuffer.add_bytes.Goals as goal

pub returns-then-bytes-left : goal.returns-then-bytes-left
returns-then-bytes-left c = bytes-over c.args.bytes.now c.args.left (omega (arith, c.if-bytes-left.true))

pub returns-in-Ok : goal.returns-in-Ok
returns-in-Ok c = bytes-within c.args.bytes.now c.args.left c.args.self.now c.append.new.self (omega (arith, c.if-bytes-left.false)) c.in-Ok.ensures.ok

pub returns-in-Err : goal.returns-in-Err
returns-in-Err c = omega (arith, c.if-bytes-left.false, size-bytes c.args.bytes.now)
