use Rattle.std.proofs.Common.{[], ◌∷◌, ◌++◌, ◌∙◌, ap, append_assoc, map, sym}
use Rattle.hush_words.specs.Parts.{word_atoms}
use Rattle.hush_syntax.specs.Answers.{left_in, words_left}
use Rattle.hush_syntax.specs.CommandWords.{Within, word_placed}
use Rattle.hush_syntax.specs.Reading.{is_word, skip, words_at}
use Rattle.hush_syntax.specs.Trees.{words_in}
use Rattle.hush_syntax.proofs.PassedWords.{passes-nothing, pushed, takes-word}
use Rattle.hush_syntax.proofs.cursor.Tokens.words.Goals as goal

pub loop-word-preserved : goal.loop-word-preserved
loop-word-preserved c =
    let text = c.args.text.now in
    let so_far = c.loop-word.invariant in
    let word = c.in-Some.word in
    let there = c.in-Some.ensures in
    let ws = c.loop-word.words.items in
    let more = c.push.new.self.items in
    let items = c.in_ok-push.ensures.items in
    record {
      taken =
          pushed (word_atoms text) ws more word (words_at (left_in text c.word.new.self)) items
          ∙ ap (λ l. words_in text ws ++ words_at l) (sym there.taken) ∙ so_far.taken;
      grown = (so_far.grown.0 ++ word ∷ [], items ∙ ap (λ l. l ++ word ∷ []) so_far.grown.1 ∙ append_assoc c.args.words.now.items so_far.grown.0 (word ∷ []));
      placed =
          pushed (word_placed text) ws more word (words_left text Within c.word.new.self) items
          ∙ ap (λ l. map (word_placed text) ws ++ l) (sym (takes-word text c.loop-word.self c.word.new.self word there.placed)) ∙ so_far.placed;
      whole = there.whole ∙ so_far.whole;
      at = there.at;
      left = sym (ap (skip is_word) there.taken) ∙ so_far.left;
    }

pub returns-clause-placed : goal.returns-clause-placed
returns-clause-placed c =
    let text = c.args.text.now in
    ap (λ l. map (word_placed text) c.loop-word.words.items ++ l) (passes-nothing text c.loop-word.self c.word.new.self c.loop-word.invariant.at c.in_default.ensures.at Within c.in_default.ensures.taken.1)
    ∙ c.loop-word.invariant.placed
