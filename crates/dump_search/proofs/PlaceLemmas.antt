-- One place after the other.
use Rattle.std.proofs.Common.{◌≡◌, ℕ, suc, ◌+◌, ◌<◌, ◌≤◌, List, ◌++◌, length, drop, arith, sym, ap, ◌∙◌, append_assoc, append-nil}
use Rattle.dump_search.specs.Search.{environment_at, found_at, found_from, places_from}
use Rattle.dump_search.specs.declared.dump.Found.{Found}

pub place_passed : (found next : List Found) (start : ℕ) (dump : List ℕ) (total : List Found) → start < length dump →
    next ≡ found ++ found_at start (drop start dump) (environment_at (drop start dump)) →
    found ++ found_from (places_from start dump) start dump ≡ total → next ++ found_from (places_from (start + 512) dump) (start + 512) dump ≡ total
unfolding found_from
place_passed found next start dump total inside is so_far =
    let rest = found_from (places_from (start + 512) dump) (start + 512) dump in
    let more : places_from start dump ≡ suc (places_from (start + 512) dump) = omega arith in
    ap (λ t. t ++ rest) is ∙ append_assoc found (found_at start (drop start dump) (environment_at (drop start dump))) rest
    ∙ ap (λ (n : ℕ). found ++ found_from n start dump) (sym more) ∙ so_far

pub places_over : (found : List Found) (start : ℕ) (dump : List ℕ) (total : List Found) → length dump ≤ start →
    found ++ found_from (places_from start dump) start dump ≡ total → found ≡ total
unfolding found_from
places_over found start dump total outside so_far =
    let none : places_from start dump ≡ 0 = omega arith in
    sym (append-nil found) ∙ ap (λ (n : ℕ). found ++ found_from n start dump) (sym none) ∙ so_far
