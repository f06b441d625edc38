use Rattle.std.proofs.Common.{◌≡◌, length}
use Rattle.hush_commands.specs.Expansion.{cut_items}
use Rattle.hush_commands.specs.Shells.{cuts_list}
use Rattle.hush_commands.specs.Buffers.{with_items}
use Rattle.hush_commands.proofs.field_buffer.FieldBuffer.add_list_word.Given as goal

abbrev pub invariant-loop-front : goal.invariant-loop-front
invariant-loop-front l = with_items l.self (cut_items cuts_list l.rest) ≡ with_items l.initial.self (cut_items cuts_list l.text)

abbrev pub decreases-loop-front : goal.decreases-loop-front
decreases-loop-front l = length l.rest
