use Rattle.std.proofs.Common.{◌≡◌, ℕ, List, ◌++◌, sym, ap, ◌∙◌, append_assoc}
use Rattle.hush_commands.specs.Expansion.{fields, cut_items}
use Rattle.hush_commands.specs.Shells.{cut_words, cuts_list}
use Rattle.hush_commands.specs.Buffers.{Made, whole, ended, with_items}
use Rattle.hush_commands.proofs.ItemLemmas.{fields_made}
use Rattle.hush_commands.proofs.field_queue.cut_words.Goals as goal

pub loop-word-preserved : goal.loop-word-preserved
loop-word-preserved c =
    let done = c.loop-word.buffer.done in
    let items = cut_items cuts_list c.in-Some.word.now in
    let left = c.next.new.self in
    let made : c.end.new.self ≡ whole (done ++ fields items) =
    c.in_ok-end.ensures.ok ∙ ap ended (c.in_ok-add_list_word.ensures ∙ ap (λ (m : Made). with_items m items) c.loop-word.invariant.whole) ∙ fields_made done items in
    record {
      whole = made ∙ sym (ap (λ (m : Made). whole m.done) made);
      left = ap (λ (m : Made). m.done ++ cut_words left) made ∙ append_assoc done (fields items) (cut_words left) ∙ ap (λ (xs : List (List ℕ)). done ++ cut_words xs) (sym c.in-Some.ensures.steps) ∙ c.loop-word.invariant.left;
    }
