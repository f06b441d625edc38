use Rattle.std.proofs.Common.{rules, ◌≡◌, List, ℕ, Option, None, Some, sym, ◌∙◌, ap, subst}
use Rattle.std.specs.Prelude.{Contains}
use Rattle.boot_search.specs.Places.{IsAt}
use Rattle.boot_search.specs.Reports.{reached_of, texts_of}
use Rattle.boot_search.proofs.PlacesLemmas.{known_place, placed_if}
use Rattle.boot_search.proofs.exploring.place.Goals as goal

pub returns-in-Some-clause-placed : goal.returns-in-Some-clause-placed
returns-in-Some-clause-placed c =
    let texts = texts_of c.args.stored.now.items in
    let same : c.in_ok-key.key.items ≡ c.args.bytes.now = search rules in
    let found : IsAt texts c.in_ok-key.key.items (Some c.in-Some.to.now) =
    subst (λ (o : Option ℕ). IsAt texts c.in_ok-key.key.items o) (sym c.in-Some.ensures.value) (c.requires c.in_ok-key.key) in
    known_place texts (reached_of c.args.stored.now.items) c.args.way c.args.bytes.now c.in-Some.to.now (found ∙ ap Some same)

pub add_stored-requires-clause-new : goal.add_stored-requires-clause-new
add_stored-requires-clause-new c =
    let texts = texts_of c.args.stored.now.items in
    let same : c.in_ok-key.key.items ≡ c.args.bytes.now = search rules in
    let none : IsAt texts c.in_ok-key.key.items None =
    subst (λ (o : Option ℕ). IsAt texts c.in_ok-key.key.items o) (sym c.in-None.ensures.value) (c.requires c.in_ok-key.key) in
    subst (λ (b : List ℕ). Contains texts b → ⊥) same none

pub returns-clause-placed : goal.returns-clause-placed
returns-clause-placed c =
    let old = c.args.stored.now.items in
    let new = c.add_stored.new.stored.items in
    let e = c.add_stored.ensures in
    let same : c.in_ok-key.key.items ≡ c.args.bytes.now = search rules in
    let none : IsAt (texts_of old) c.in_ok-key.key.items None =
    subst (λ (o : Option ℕ). IsAt (texts_of old) c.in_ok-key.key.items o) (sym c.in-None.ensures.value) (c.requires c.in_ok-key.key) in
    placed_if c.add_stored.result (texts_of old) (texts_of new) (reached_of old) (reached_of new) c.args.way c.args.bytes.now
    (subst (λ (b : List ℕ). Contains (texts_of old) b → ⊥) same none) e.place e.texts e.reached
