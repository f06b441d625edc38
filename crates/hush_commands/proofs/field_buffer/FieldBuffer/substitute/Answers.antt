use Rattle.std.proofs.Common.{arith}
use Rattle.hush_commands.proofs.ItemLemmas.{text-over, text-within, text-fits}
use Rattle.hush_commands.proofs.field_buffer.FieldBuffer.substitute.Goals as goal

pub returns-then-text-left : goal.returns-then-text-left
returns-then-text-left c = text-over c.args.quoted c.args.text.now c.args.left c.if-quoted.false (omega (arith, c.if-text-left.true))

pub returns-in-Ok : goal.returns-in-Ok
returns-in-Ok c = text-within c.args.quoted c.args.text.now c.args.left c.args.self.now c.add_split.new.self c.if-quoted.false (omega (arith, c.if-text-left.false)) c.in-Ok.ensures

pub returns-in-Err : goal.returns-in-Err
returns-in-Err c = text-fits c.args.quoted c.args.text.now c.args.left c.if-quoted.false (omega (arith, c.if-text-left.false))
