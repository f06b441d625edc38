-- Runs of a class in the source, by the places where they begin and end.
use Rattle.std.specs.Prelude.{◌≡◌, ℕ, zero, suc, ◌+◌, ◌-◌, ◌<◌, ◌≤◌, ◌==◌, Bool, true, false, not, List, [], ◌∷◌, ◌++◌, length, take, drop, Some, None}
use Rattle.std.proofs.Common.{refl, sym, ◌∙◌, ap, subst, arith, get_or, length-drop, append_assoc}
use Rattle.std.proofs.Math.Seq.{take-suc, drop-cons}
use Rattle.std.proofs.lemmas.Bool.{false_from_ne_true}
use Rattle.std.proofs.lemmas.List.{get_or-drop, take_all, drop-drop}
use Rattle.memchr.specs.Find.{IsFirstByte, is_byte}
use Rattle.hush_words.specs.Reading.{front, behind}
use Rattle.hush_words.specs.Steps.{IsRun}

-- one byte more
pub run-step : (test : ℕ → Bool) (xs : List ℕ) (start end : ℕ) → start ≤ end → end < length xs → test (get_or xs end 0) ≡ true →
    front test (drop start xs) ≡ take (end - start) (drop start xs) ++ front test (drop end xs) →
    behind test (drop start xs) ≡ behind test (drop end xs) →
    (front test (drop start xs) ≡ take (end + 1 - start) (drop start xs) ++ front test (drop (end + 1) xs)) ×
    (behind test (drop start xs) ≡ behind test (drop (end + 1) xs))
run-step test xs start end after within passes f g =
    let b : ℕ = get_or xs end 0 in
    let next : end + 1 ≡ suc end = omega arith in
    let here : drop end xs ≡ b ∷ drop (end + 1) xs = drop-cons xs end 0 within ∙ ap (λ n. b ∷ drop n xs) (sym next) in
    let len : end + 1 - start ≡ suc (end - start) = omega arith in
    let short : end - start < length (drop start xs) = omega (arith, length-drop start xs) in
    let place : start + (end - start) ≡ end = omega arith in
    let same : get_or (drop start xs) (end - start) 0 ≡ b = get_or-drop start xs (end - start) 0 ∙ ap (λ n. get_or xs n 0) place in
    let longer : take (end + 1 - start) (drop start xs) ≡ take (end - start) (drop start xs) ++ b ∷ [] =
    ap (λ n. take n (drop start xs)) len ∙ take-suc (drop start xs) (end - start) 0 short ∙ ap (λ k. take (end - start) (drop start xs) ++ k ∷ []) same in
    let one : front test (b ∷ drop (end + 1) xs) ≡ b ∷ front test (drop (end + 1) xs) = rw passes refl in
    let two : behind test (b ∷ drop (end + 1) xs) ≡ behind test (drop (end + 1) xs) = rw passes refl in (
      f ∙ ap (λ l. take (end - start) (drop start xs) ++ l) (ap (front test) here ∙ one)
          ∙ sym (append_assoc (take (end - start) (drop start xs)) (b ∷ []) (front test (drop (end + 1) xs)))
          ∙ ap (λ l. l ++ front test (drop (end + 1) xs)) (sym longer),
      g ∙ ap (behind test) here ∙ two,
    )

-- up to the first byte that passes, or to the end
pub first-cut : (test : ℕ → Bool) (ys : List ℕ) (n : ℕ) → ((k : ℕ) → k < n → test (get_or ys k 0) ≡ true → ⊥) →
    (n < length ys → test (get_or ys n 0) ≡ true) → n ≤ length ys →
    (take n ys ≡ front (λ b. not (test b)) ys) × (drop n ys ≡ behind (λ b. not (test b)) ys)
first-cut test [] zero before here within = (refl, refl)
first-cut test [] (suc n) before here within = absurd (omega arith)
first-cut test (b ∷ bs) zero before here within = let e : test b ≡ true = here (omega arith) in (rw e refl, rw e refl)
first-cut test (b ∷ bs) (suc n) before here within =
    let e : test b ≡ false = false_from_ne_true (test b) (before 0 (omega arith)) in
    let rest = first-cut test bs n (λ k lt. before (suc k) (omega arith)) (λ lt. here (omega arith)) (omega arith) in
    (rw e (ap (λ (l : List ℕ). b ∷ l) rest.0), rw e rest.1)

pub range-rest : {X : Type 0} (n : ℕ) (xs : List X) → take (length xs - n) (drop n xs) ≡ drop n xs
range-rest n xs = take_all (length xs - n) (drop n xs) (omega (arith, length-drop n xs))

pub found-first : (byte : ℕ) (ys : List ℕ) (n : ℕ) → IsFirstByte (is_byte byte) ys (Some n) →
    (n < length ys) × (take n ys ≡ front (λ b. not (b == byte)) ys) × (drop n ys ≡ behind (λ b. not (b == byte)) ys)
found-first byte ys n h =
    let lt : n < length ys = h.0.high in
    let cut = first-cut (λ b. b == byte) ys n (λ k lt. h.0.before k (omega arith) lt) (λ lt. h.1) (omega arith) in
    (lt, cut.0, cut.1)

pub found-none : (byte : ℕ) (ys : List ℕ) → IsFirstByte (is_byte byte) ys None →
    (take (length ys) ys ≡ front (λ b. not (b == byte)) ys) × (drop (length ys) ys ≡ behind (λ b. not (b == byte)) ys)
found-none byte ys h =
    first-cut (λ b. b == byte) ys (length ys) (λ k lt. h k (omega arith) lt) (λ lt. absurd (omega arith)) (omega arith)

pub place-some : (byte : ℕ) (xs : List ℕ) (start n : ℕ) → start ≤ length xs →
    IsFirstByte (is_byte byte) (take (length xs - start) (drop start xs)) (Some n) → IsRun (λ b. not (b == byte)) xs start (start + n)
place-some byte xs start n within h =
    let k = found-first byte (drop start xs) n (subst (λ l. IsFirstByte (is_byte byte) l (Some n)) (range-rest start xs) h) in
    let len : start + n - start ≡ n = omega arith in
    let small : n < length (drop start xs) = k.0 in
    (omega arith, omega (arith, length-drop start xs), ap (λ m. take m (drop start xs)) len ∙ k.1, sym (drop-drop n start xs) ∙ k.2)

pub place-none : (byte : ℕ) (xs : List ℕ) (start : ℕ) → start ≤ length xs →
    IsFirstByte (is_byte byte) (take (length xs - start) (drop start xs)) None → IsRun (λ b. not (b == byte)) xs start (length xs)
place-none byte xs start within h =
    let k = found-none byte (drop start xs) (subst (λ l. IsFirstByte (is_byte byte) l None) (range-rest start xs) h) in
    let len : length (drop start xs) ≡ length xs - start = length-drop start xs in
    let whole : start + (length xs - start) ≡ length xs = omega arith in (
      within,
      omega arith,
      ap (λ m. take m (drop start xs)) (sym len) ∙ k.0,
      sym (drop-drop (length xs - start) start xs ∙ ap (λ m. drop m xs) whole) ∙ ap (λ m. drop m (drop start xs)) (sym len) ∙ k.1,
    )
