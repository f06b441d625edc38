use Rattle.std.proofs.Common.{◌≡◌, ◌++◌, length}
use Rattle.hush_commands.specs.Shells.{cut_words}
use Rattle.hush_commands.specs.Buffers.{whole}
use Rattle.hush_commands.proofs.field_queue.cut_words.Given as goal

abbrev pub invariant-loop-word : goal.invariant-loop-word
invariant-loop-word l = record {
  whole : l.buffer ≡ whole l.buffer.done;
  left : l.buffer.done ++ cut_words l.rest ≡ cut_words l.fn.words;
}

abbrev pub decreases-loop-word : goal.decreases-loop-word
decreases-loop-word l = length l.rest
