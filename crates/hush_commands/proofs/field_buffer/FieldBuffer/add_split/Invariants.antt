use Rattle.std.proofs.Common.{◌≡◌, false, length}
use Rattle.hush_commands.specs.Expansion.{substituted}
use Rattle.hush_commands.specs.Buffers.{with_items}
use Rattle.hush_commands.proofs.field_buffer.FieldBuffer.add_split.Given as goal

abbrev pub invariant-loop-front : goal.invariant-loop-front
invariant-loop-front l = with_items l.self (substituted false l.rest) ≡ with_items l.initial.self (substituted false l.text)

abbrev pub decreases-loop-front : goal.decreases-loop-front
decreases-loop-front l = length l.rest
