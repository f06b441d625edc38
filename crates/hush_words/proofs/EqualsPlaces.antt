-- The first `=` from a place on, past bytes of a name and joined lines, and in a prefix of the source.
use Rattle.std.specs.Prelude.{◌≡◌, ℕ, zero, suc, ◌+◌, ◌-◌, ◌<◌, ◌≤◌, ◌==◌, ◌&&◌, true, false, not, List, [], ◌∷◌, ◌++◌, length, take, drop}
use Rattle.std.specs.List.{list_all}
use Rattle.std.proofs.Common.{refl, ◌∙◌, ap, arith, length-drop, inl, inr}
use Rattle.std.proofs.lemmas.Bool.{cases_Bool, and_parts}
use Rattle.std.proofs.lemmas.List.{length-take-le}
use Rattle.hush_words.specs.Words.{begins_name, is_in_name}
use Rattle.hush_words.specs.Reading.{front}
use Rattle.hush_words.specs.Parts.{range_bytes}
use Rattle.hush_words.specs.Views.{equals_place}
use Rattle.hush_words.specs.Steps.{begins, IsRun}
use Rattle.hush_words.proofs.DollarLemmas.{begins-here}
use Rattle.hush_words.proofs.Finders.{differs}
use Rattle.hush_words.proofs.Fronts.{front-all}
use Rattle.hush_words.proofs.NameRuns.{line-bytes}
use Rattle.hush_words.proofs.PieceLemmas.{range-rest}
use Rattle.hush_words.proofs.RangeLemmas.{front-drop}

-- past bytes that aren't `=`
front-past : (xs rest : List ℕ) → list_all (λ b. not (b == 61)) xs ≡ true →
    length (front (λ b. not (b == 61)) (xs ++ rest)) ≡ length xs + length (front (λ b. not (b == 61)) rest)
front-past [] rest others = omega arith
front-past (x ∷ xs) rest others =
    let p = and_parts (not (x == 61)) (list_all (λ b. not (b == 61)) xs) others in
    let e : not (x == 61) ≡ true = p.0 in
    rw e (omega (arith, front-past xs rest p.1))

range-past : (source : List ℕ) (start end : ℕ) → start ≤ end → end ≤ length source →
    list_all (λ b. not (b == 61)) (range_bytes source start end) ≡ true → equals_place source start ≡ equals_place source end
range-past source start end ordered within others =
    let len : length (range_bytes source start end) ≡ end - start =
    length-take-le (end - start) (drop start source) (omega (arith, length-drop start source)) in
    let all = ap (λ l. length (front (λ b. not (b == 61)) l)) (range-rest source start end ordered)
    ∙ front-past (range_bytes source start end) (drop end source) others in
    omega (arith, len, all)

equals-other : is_in_name 61 ≡ false
unfolding is_in_name begins_name
equals-other = refl

name-others : (bs : List ℕ) → list_all is_in_name bs ≡ true → list_all (λ b. not (b == 61)) bs ≡ true
name-others [] e = refl
name-others (b ∷ bs) e =
    let p = and_parts (is_in_name b) (list_all is_in_name bs) e in
    let other : (b == 61) ≡ false = differs is_in_name b 61 p.0 equals-other in
    rw other (name-others bs p.1)

pub run-past : (source : List ℕ) (at end : ℕ) → IsRun is_in_name source at end → equals_place source at ≡ equals_place source end
run-past source at end run =
    range-past source at end run.0 run.1
    (name-others (range_bytes source at end) (ap (list_all is_in_name) run.2 ∙ front-all is_in_name (drop at source)))

pub line-past : (source : List ℕ) (at : ℕ) → begins 92 (drop at source) && begins 10 (drop (at + 1) source) ≡ true →
    equals_place source at ≡ equals_place source (at + 2)
line-past source at e =
    let line = line-bytes source at e in
    range-past source at (at + 2) (omega arith) line.0 (ap (list_all (λ b. not (b == 61))) line.1)

-- at an `=`
pub equals-found : (source : List ℕ) (start at : ℕ) → equals_place source start ≡ equals_place source at → begins 61 (drop at source) ≡ true →
    at ≡ equals_place source start
equals-found source start at before e =
    let none = ap (λ l. length (front (λ b. not (b == 61)) l)) (begins-here 61 source at e).1 in
    omega (arith, before, none)

-- one that is in a prefix is the first of the whole, too
front-cut : (n : ℕ) (xs : List ℕ) → length (front (λ b. not (b == 61)) (take n xs)) < length (take n xs) →
    length (front (λ b. not (b == 61)) xs) ≡ length (front (λ b. not (b == 61)) (take n xs))
front-cut zero xs less = absurd (omega (arith, less))
front-cut (suc n) [] less = refl
front-cut (suc n) (x ∷ xs) less =
    elim (cases_Bool (x == 61)) [
      | inl e ↦ rw e refl
      | inr e ↦ let less' = rw e at less in rw e (omega (arith, front-cut n xs (omega (arith, less'))))
    ]

pub value-begins : (source : List ℕ) (start end at : ℕ) → at < length (take end source) → at ≡ equals_place (take end source) start →
    at + 1 ≡ equals_place source start + 1
value-begins source start end at within first =
    let word = front-drop source start end in
    let len = ap (λ l. length (front (λ b. not (b == 61)) l)) word in
    let all = ap (λ l. length l) word in
    omega (arith, first, len, front-cut (end - start) (drop start source) (omega (arith, within, first, len, all, length-drop start (take end source))))
