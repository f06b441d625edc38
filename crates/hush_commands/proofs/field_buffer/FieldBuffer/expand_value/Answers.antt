use Rattle.std.proofs.Common.{◌≡◌, [], rules, Err, ◌∙◌, ap}
use Rattle.hush_words.specs.Parts.{word_atoms}
use Rattle.hush_commands.specs.Scopes.{known}
use Rattle.hush_commands.specs.Buffers.{Made, with_bytes}
use Rattle.hush_commands.proofs.WordLemmas.{value-fits, value-refused}
use Rattle.hush_commands.proofs.field_buffer.FieldBuffer.expand_value.Goals as goal

pub returns-in_err-add_word : goal.returns-in_err-add_word
returns-in_err-add_word c =
    let same : c.from_residual.result ≡ Err c.in_err-add_word.field-0.0 = search rules in
    rw same (value-refused (known c.args.scope.now) c.args.limit (word_atoms c.args.scope.now.text.now c.args.word) c.begin.new.self c.add_word.new.self c.in_err-add_word.field-0.0 c.in_err-add_word.ensures)

pub returns : goal.returns
returns c =
    value-fits (known c.args.scope.now) c.args.limit (word_atoms c.args.scope.now.text.now c.args.word) c.in_ok-add_word.field-0 c.begin.new.self c.add_word.new.self c.end.new.self
    (c.begin.ensures ∙ ap (λ (m : Made). with_bytes m []) c.clear.ensures) c.in_ok-add_word.ensures c.in_ok-end.ensures.ok
