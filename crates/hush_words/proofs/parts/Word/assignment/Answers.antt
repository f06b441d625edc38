use Rattle.std.proofs.Common.{sym, ◌∙◌, ap, subst, take, refl, length, ◌≡◌, ◌<◌, Some, None, option_map}
use Rattle.hush_words.specs.Steps.{SplitsAt}
use Rattle.hush_words.specs.Views.{equals_place}
use Rattle.hush_words.proofs.FormLemmas.{sides, no-sides}
use Rattle.hush_words.proofs.EqualsPlaces.{value-begins}
use Rattle.hush_words.proofs.parts.Word.assignment.Goals as goal

pub returns-in-Some-clause-sides : goal.returns-in-Some-clause-sides
returns-in-Some-clause-sides c =
    let w = c.args.self in
    let front = c.front.ensures ∙ ap (take w.end) c.source.ensures.bytes in
    sides c.args.text.now.source w.start w.end c.in-Some.at (subst (λ l. SplitsAt l w.start (Some c.in-Some.at)) front c.in-Some.ensures.splits)

pub returns-in-None-clause-sides : goal.returns-in-None-clause-sides
returns-in-None-clause-sides c =
    let w = c.args.self in
    let front = c.front.ensures ∙ ap (take w.end) c.source.ensures.bytes in
    sym (ap (λ o. option_map (λ f. (Some f.0, f.1)) o)
    (no-sides c.args.text.now.source w.start w.end (subst (λ l. SplitsAt l w.start None) front c.in-None.ensures.splits)))

pub returns-in-Some-clause-places : goal.returns-in-Some-clause-places
returns-in-Some-clause-places c =
    let w = c.args.self in
    let at = c.in-Some.at in
    let front = c.front.ensures ∙ ap (take w.end) c.source.ensures.bytes in
    let within = subst (λ l. at < length l) front c.in-Some.ensures.splits.1 in
    (refl, value-begins c.args.text.now.source w.start w.end at within (subst (λ l. at ≡ equals_place l w.start) front c.in-Some.ensures.first))
