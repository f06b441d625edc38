use Rattle.std.proofs.Common.{◌≡◌, rules, Err, map, ◌∙◌, ap}
use Rattle.hush_words.specs.Parts.{word_atoms}
use Rattle.hush_commands.specs.Expansion.{Byte}
use Rattle.hush_commands.specs.Scopes.{known}
use Rattle.hush_commands.specs.Buffers.{Made, with_items}
use Rattle.hush_commands.proofs.WordLemmas.{after-fits, after-refused}
use Rattle.hush_commands.proofs.field_buffer.FieldBuffer.expand_after.Goals as goal

pub returns-in_err-add_word : goal.returns-in_err-add_word
returns-in_err-add_word c =
    let same : c.from_residual-in_err-add_word.result ≡ Err c.in_err-add_word.field-0.0 = search rules in
    rw same (after-refused (known c.args.scope.now) c.args.limit c.args.front.now (word_atoms c.args.scope.now.text.now c.args.word) c.append.new.self c.add_word.new.self c.in_err-add_word.field-0.0 c.in_err-add_word.ensures)

pub returns : goal.returns
returns c =
    after-fits (known c.args.scope.now) c.args.limit c.args.front.now (word_atoms c.args.scope.now.text.now c.args.word) c.in_ok-add_word.field-0 c.append.new.self c.add_word.new.self c.end.new.self
    (c.in_ok-append.ensures.ok ∙ ap (λ (m : Made). with_items m (map Byte c.args.front.now)) c.clear.ensures) c.in_ok-add_word.ensures c.in_ok-end.ensures.ok
