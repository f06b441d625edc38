-- Where a text is cut: the answers of memchr in the words of the definitions.
use Rattle.std.proofs.Common.{◌≡◌, ℕ, ◌+◌, ◌-◌, Bool, true, false, List, [], ◌∷◌, length, take, drop, Option, None, Some, unwrap_or, sym, ap, ◌∙◌, subst, arith}
use Rattle.std.specs.List.{position_or_len, before_first, after_first, list_any, All}
use Rattle.std.specs.Option.{is_some}
use Rattle.std.proofs.lemmas.Bool.{false_from_ne_true}
use Rattle.std.proofs.lemmas.List.{drop_all, take_all, take_rest, get_or_default}
use Rattle.std.proofs.lemmas.List.Sums.{position_or_len_is}
use Rattle.std.proofs.lemmas.List.Folds.{list_any_at, list_any_none}
use Rattle.memchr.specs.Find.{IsFirstByte}

-- the place found is where the first byte that passes is
pub position_or_len-found : (p : ℕ → Bool) (xs : List ℕ) (k : ℕ) → IsFirstByte p xs (Some k) → position_or_len p xs ≡ k
position_or_len-found p xs k found =
    let below = found.0 in
    position_or_len_is p xs k 0 (omega (arith, below.high)) (λ j h. false_from_ne_true _ (below.before j (omega arith) h)) (λ _. found.1)

-- if none is found, that is the length
pub position_or_len-none : (p : ℕ → Bool) (xs : List ℕ) → IsFirstByte p xs None → position_or_len p xs ≡ length xs
position_or_len-none p xs none =
    position_or_len_is p xs (length xs) 0 (omega arith) (λ j h. false_from_ne_true _ (none j (omega arith) h)) (λ h. absurd (omega arith))

pub position_or_len-answer : (p : ℕ → Bool) (xs : List ℕ) (r : Option ℕ) → IsFirstByte p xs r → unwrap_or r (length xs) ≡ position_or_len p xs
position_or_len-answer p xs None none = sym (position_or_len-none p xs none)
position_or_len-answer p xs (Some k) found = sym (position_or_len-found p xs k found)

pub none_pass : (p : ℕ → Bool) (xs : List ℕ) → IsFirstByte p xs None → All (λ x. p x ≡ false) xs
none_pass p xs none k d h = let e = get_or_default xs k 0 d h in subst (λ (y : ℕ). p y ≡ false) e (false_from_ne_true _ (none k (omega arith) h))

-- whether one is found
pub list_any-answer : (p : ℕ → Bool) (xs : List ℕ) (r : Option ℕ) → IsFirstByte p xs r → is_some r ≡ list_any p xs
list_any-answer p xs None none = sym (list_any_none p xs (none_pass p xs none))
list_any-answer p xs (Some k) found = sym (list_any_at p xs k 0 found.0.high found.1)

-- what is after the place found
pub after_first-found : (p : ℕ → Bool) (xs : List ℕ) (k : ℕ) → IsFirstByte p xs (Some k) → take (length xs - (k + 1)) (drop (k + 1) xs) ≡ after_first p xs
after_first-found p xs k found =
    take_rest xs (k + 1) ∙ ap (λ n. drop (n + 1) xs) (sym (position_or_len-found p xs k found))

pub after_first-none : (p : ℕ → Bool) (xs : List ℕ) → IsFirstByte p xs None → [] ≡ after_first p xs
after_first-none p xs none =
    sym (drop_all (position_or_len p xs + 1) xs (omega (arith, position_or_len-none p xs none)))

-- the first byte, and a first byte that fails
pub position_or_len-yes : (p : ℕ → Bool) (x : ℕ) (xs : List ℕ) → p x ≡ true → position_or_len p (x ∷ xs) ≡ 0
position_or_len-yes p x xs h = rw h

pub position_or_len-no : (p : ℕ → Bool) (x : ℕ) (xs : List ℕ) → p x ≡ false → position_or_len p (x ∷ xs) ≡ 1 + position_or_len p xs
position_or_len-no p x xs h = rw h

pub before_first-found : (p : ℕ → Bool) (xs : List ℕ) (k : ℕ) → IsFirstByte p xs (Some k) → take k xs ≡ before_first p xs
before_first-found p xs k found = ap (λ n. take n xs) (sym (position_or_len-found p xs k found))

pub before_first-none : (p : ℕ → Bool) (xs : List ℕ) → IsFirstByte p xs None → xs ≡ before_first p xs
before_first-none p xs none = sym (take_all (position_or_len p xs) xs (omega (arith, position_or_len-none p xs none)))
