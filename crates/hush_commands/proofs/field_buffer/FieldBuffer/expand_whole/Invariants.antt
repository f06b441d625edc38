use Rattle.std.proofs.Common.{◌≡◌, true, map, take}
use Rattle.std.specs.List.{list_all}
use Rattle.hush_words.specs.Parts.{word_atoms}
use Rattle.hush_commands.specs.Expansion.{bytes_of, items_of, fits}
use Rattle.hush_commands.specs.Scopes.{known}
use Rattle.hush_commands.specs.Buffers.{whole}
use Rattle.hush_commands.proofs.field_buffer.FieldBuffer.expand_whole.Given as goal

abbrev pub invariant-loop-word : goal.invariant-loop-word
invariant-loop-word l =
    let done = map (word_atoms l.scope.text.now) (take l.word-index l.words) in
    record {
      made : l.self ≡ whole (map (λ word. bytes_of (items_of (known l.scope) word)) done);
      small : list_all (fits (known l.scope) l.limit) done ≡ true;
    }
