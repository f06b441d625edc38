use Rattle.std.proofs.Common.{◌≡◌, rules, List, map, take, get_or, true, false, subst, sym, Err, arith}
use Rattle.std.specs.List.{flat_map, list_all}
use Rattle.hush_words.specs.Words.{Atom}
use Rattle.hush_words.specs.Parts.{word_atoms}
use Rattle.hush_words.specs.declared.parts.Word.{Word as Range}
use Rattle.hush_commands.specs.Expansion.{fits, word_fields}
use Rattle.hush_commands.specs.Scopes.{known}
use Rattle.hush_commands.specs.Buffers.{whole}
use Rattle.hush_commands.proofs.WordLemmas.{next-word, made-more, small-more, word-refused}
use Rattle.hush_commands.proofs.field_buffer.FieldBuffer.expand.Goals as goal

pub returns-in_err-add_word : goal.returns-in_err-add_word
returns-in_err-add_word c =
    let same : c.from_residual.result ≡ Err c.in_err-add_word.field-0.0 = search rules in
    let d : Range = record { start = 0; end = 0 } in
    rw same (word-refused (known c.args.scope.now) c.args.limit c.args.scope.now.text.now c.args.words.now c.loop-word.word-index d c.loop-word.self c.add_word.new.self c.in_err-add_word.field-0.0 (omega (arith, c.loop-word-test.true)) c.in_err-add_word.ensures)

pub loop-word-preserved : goal.loop-word-preserved
loop-word-preserved c =
    let k = known c.args.scope.now in
    let text = c.args.scope.now.text.now in
    let ws = c.args.words.now in
    let i = c.loop-word.word-index in
    let d : Range = record { start = 0; end = 0 } in
    let done = map (word_atoms text) (take i ws) in
    let word = word_atoms text (get_or ws i d) in
    let more = sym (next-word text ws i d (omega (arith, c.loop-word-test.true))) in
    record {
      made = subst (λ (xs : List (List Atom)). c.end.new.self ≡ whole (flat_map (word_fields k) xs)) more (made-more k c.args.limit done word c.in_ok-add_word.field-0 c.loop-word.self c.add_word.new.self c.end.new.self c.loop-word.invariant.made c.in_ok-add_word.ensures c.in_ok-end.ensures.ok);
      small = subst (λ (xs : List (List Atom)). list_all (fits k c.args.limit) xs ≡ true) more (small-more false k c.args.limit done word c.in_ok-add_word.field-0 c.loop-word.self c.add_word.new.self c.loop-word.invariant.small c.in_ok-add_word.ensures);
    }
