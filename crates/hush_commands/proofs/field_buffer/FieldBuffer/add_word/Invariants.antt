use Rattle.std.proofs.Common.{◌≡◌, ◌++◌, List, Ok}
use Rattle.hush_words.specs.Parts.{word_atoms}
use Rattle.hush_commands.specs.Expansion.{Item, items_of}
use Rattle.hush_commands.specs.Scopes.{known}
use Rattle.hush_commands.specs.Buffers.{AddsItems, kept}
use Rattle.hush_commands.proofs.field_buffer.FieldBuffer.add_word.Given as goal

abbrev pub invariant-loop-part : goal.invariant-loop-part
invariant-loop-part l =
    let k = known l.scope in
    (l.parts.source ≡ l.scope.text.now.source) ×
    (done : List Item) × AddsItems done l.limit l.initial.self l.self (Ok l.left) ×
    (done ++ kept l.uncut (items_of k l.parts.atoms) ≡ kept l.uncut (items_of k (word_atoms l.scope.text.now l.fn.word)))

abbrev pub decreases-loop-part : goal.decreases-loop-part
decreases-loop-part l = l.parts.bytes
