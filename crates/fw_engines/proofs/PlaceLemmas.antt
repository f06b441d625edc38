-- Places of a text, one after the other.
use Rattle.std.proofs.Common.{◌≡◌, ℕ, zero, suc, ◌+◌, ◌-◌, ◌≤◌, min, List, [], ◌∷◌, ◌++◌, length, take, drop, refl, sym, ap, ◌∙◌, arith}
use Rattle.fw_engines.specs.TextPlaces.{after_byte, after_bytes, place_of}
use Rattle.fw_engines.specs.declared.text_places.Place.{Place}

after-append : (p : Place) (xs ys : List ℕ) → after_bytes p (xs ++ ys) ≡ after_bytes (after_bytes p xs) ys
after-append p [] ys = refl
after-append p (x ∷ xs) ys = after-append (after_byte p x) xs ys

take-nil : (k : ℕ) → take {A = ℕ} k [] ≡ []
take-nil zero = refl
take-nil (suc k) = refl

take-more : (xs : List ℕ) (a k : ℕ) → take (a + k) xs ≡ take a xs ++ take k (drop a xs)
take-more xs zero k = ap (λ (n : ℕ). take n xs) (let e : 0 + k ≡ k = omega arith in e)
take-more [] (suc a) k = ap (λ (n : ℕ). take {A = ℕ} n []) (let e : suc a + k ≡ suc (a + k) = omega arith in e) ∙ sym (take-nil k)
take-more (x ∷ xs) (suc a) k =
    ap (λ (n : ℕ). take n (x ∷ xs)) (let e : suc a + k ≡ suc (a + k) = omega arith in e) ∙ ap (λ (ys : List ℕ). x ∷ ys) (take-more xs a k)

pub place-more : (text : List ℕ) (a c : ℕ) → a ≤ c → after_bytes (place_of text a) (take (c - a) (drop a text)) ≡ place_of text c
place-more text a c h =
    let front : Place = record { line = 1; column = 1 } in
    sym (after-append front (take a text) (take (c - a) (drop a text)))
    ∙ ap (after_bytes front) (sym (take-more text a (c - a)) ∙ ap (λ (n : ℕ). take n text) (let e : a + (c - a) ≡ c = omega (arith, h) in e))

take-within : (xs : List ℕ) (n : ℕ) → take (min n (length xs)) xs ≡ take n xs
take-within [] n = ap (λ (k : ℕ). take {A = ℕ} k []) (let e : min n 0 ≡ 0 = omega arith in e) ∙ sym (take-nil n)
take-within (x ∷ xs) zero = ap (λ (k : ℕ). take k (x ∷ xs)) (let e : min 0 (suc (length xs)) ≡ 0 = omega arith in e)
take-within (x ∷ xs) (suc n) =
    ap (λ (k : ℕ). take k (x ∷ xs)) (let e : min (suc n) (suc (length xs)) ≡ suc (min n (length xs)) = omega arith in e) ∙ ap (λ (ys : List ℕ). x ∷ ys) (take-within xs n)

pub place-within : (text : List ℕ) (count : ℕ) → place_of text (min count (length text)) ≡ place_of text count
place-within text count = let front : Place = record { line = 1; column = 1 } in ap (after_bytes front) (take-within text count)

-- a place that was moved on
pub place-moved : (text : List ℕ) (front result : Place) (a c : ℕ) → a ≤ c → front ≡ place_of text a → result ≡ after_bytes front (take (c - a) (drop a text)) → result ≡ place_of text c
place-moved text front result a c h is moved = moved ∙ ap (λ (p : Place). after_bytes p (take (c - a) (drop a text))) is ∙ place-more text a c h
