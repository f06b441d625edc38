use Rattle.std.proofs.Common.{rules, ◌≡◌, ℕ, List, ◌∷◌, [], ◌++◌, sym, ◌∙◌, ap, subst, map, length}
use Rattle.std.proofs.lemmas.List.{map-append}
use Rattle.boot_search.specs.Places.{AreAt}
use Rattle.boot_search.specs.Reports.{bytes_of}
use Rattle.boot_search.proofs.PlaceLemmas.{stored_long}
use Rattle.boot_search.proofs.PlacesLemmas.{one_more_at}
use Rattle.boot_search.proofs.exploring.add_stored.Goals as goal
use Rattle.boot_search.proofs.exploring.add_stored.Goals.{in-Ok, in-Err}

pub returns-clause-places : goal.returns-clause-places
returns-clause-places c =
    let old = c.args.stored.now.items in
    let bytes = c.args.bytes.now in
    let same : c.in_ok-to_vec.field-0.items ≡ bytes = search rules in
    let key : c.in_ok-to_vec-2.field-0.items ≡ bytes = search rules in
    let long : c.len-to.result ≡ length (map bytes_of old) = c.len-to.ensures ∙ sym (stored_long c.args.stored.now) in
    let texts : map bytes_of c.push.new.self.items ≡ map bytes_of old ++ bytes ∷ [] =
    ap (map bytes_of) c.in_ok-push.ensures.items ∙ map-append bytes_of old _ ∙ ap (λ (b : List ℕ). map bytes_of old ++ b ∷ []) same in
    elim c.match-insert.branch [
      | in-Ok w ↦
          rw w.result-is (subst (λ (t : List (List ℕ)). AreAt t c.insert.new.self) (sym texts)
          (one_more_at (map bytes_of old) bytes c.args.places.now c.insert.new.self c.in_ok-to_vec-2.field-0 c.len-to.result key long w.in-Ok.ensures.updates c.requires.places))
      | in-Err w ↦ rw w.result-is tt
    ]
