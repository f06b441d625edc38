-- What the writer took, and its count.
use Rattle.std.proofs.Common.{◌≡◌, ℕ, ◌+◌, ◌-◌, ◌≤◌, ◌++◌, min, List, [], ◌∷◌, length, take, drop, Option, Bool, true, false, refl, sym, ap, subst, ◌∙◌, arith, append_assoc, append-nil, length-append, length-take, length-drop}
use Rattle.std.proofs.lemmas.List.{take_all, take-append-drop}
use Rattle.std.proofs.KnownBytes.{Appends-trans, Appends-nil}
use Rattle.std.specs.Io.KnownBytes.{Appends}
use Rattle.std.specs.Prelude.{MatchBool}
use Rattle.fw_engines.specs.Streams.{AppendsFront, AppendsPart}
use Rattle.fw_session.specs.Streams.{counted, Counts, Writes}

pub counts_none : (n : ℕ) → Counts n n []
counts_none n m e = e ∙ ap counted (omega arith)

pub counts_then : (n n' n'' : ℕ) (a b : List ℕ) → Counts n n' a → Counts n' n'' b → Counts n n'' (a ++ b)
counts_then n n' n'' a b p q m e = q (m + length a) (p m e) ∙ ap counted (omega (arith, length-append a b))

pub writes_none : (out : Option (List ℕ)) (n : ℕ) → Writes out out n n [] true
writes_none out n = (Appends-nil out, counts_none n)

-- one text, and then another
pub writes_then : (out out' out'' : Option (List ℕ)) (n n' n'' : ℕ) (a b : List ℕ) (ok : Bool) → Writes out out' n n' a true → Writes out' out'' n' n'' b ok → Writes out out'' n n'' (a ++ b) ok
writes_then out out' out'' n n' n'' a b true p q = (Appends-trans out out' out'' a b p.0 q.0, counts_then n n' n'' a b p.1 q.1)
writes_then out out' out'' n n' n'' a b false p q = (
  a ++ q.0,
  q.1,
  ap (λ x. a ++ x) q.2 ∙ sym (append_assoc a q.0 q.1),
  q.3,
  Appends-trans out out' out'' a q.0 p.0 q.4,
  counts_then n n' n'' a q.0 p.1 q.5,
)

-- the first text broke off
pub writes_cut_short : (out out' : Option (List ℕ)) (n n' : ℕ) (a b : List ℕ) → Writes out out' n n' a false → Writes out out' n n' (a ++ b) false
writes_cut_short out out' n n' a b p = (p.0, p.1 ++ b, ap (λ x. x ++ b) p.2 ∙ append_assoc p.0 p.1 b, omega (arith, p.3, length-append p.1 b), p.4, p.5)

-- the writer took n bytes of the rest
pub front_grows : (a b c : Option (List ℕ)) (k k' k'' : ℕ) (text rest : List ℕ) (n : ℕ) →
    (front : List ℕ) × (text ≡ front ++ rest) × Appends a b front × Counts k k' front → Appends b c (take n rest) → Counts k' k'' (take n rest) →
    (front : List ℕ) × (text ≡ front ++ take (length rest - n) (drop n rest)) × Appends a c front × Counts k k'' front
front_grows a b c k k' k'' text rest n was took more = (
  was.0 ++ take n rest,
  was.1 ∙ ap (λ r. was.0 ++ r) (sym (take-append-drop n rest) ∙ ap (λ r. take n rest ++ r) (sym (take_all (length rest - n) (drop n rest) (omega (arith, length-drop n rest)))))
      ∙ sym (append_assoc was.0 (take n rest) (take (length rest - n) (drop n rest))),
  Appends-trans a b c was.0 (take n rest) was.2 took,
  counts_then k k' k'' was.0 (take n rest) was.3 more,
)

stops : (m n k M : ℕ) → n ≡ min m M → min (n + k) M ≡ min (m + k) M
stops m n k M e = subst (λ v. min (v + k) M ≡ min (m + k) M) (sym e) (omega arith)

-- the count after a write of n bytes
pub counts_more : (k k' n : ℕ) (rest : List ℕ) → n ≤ length rest → k' ≡ min (k + n) 18446744073709551615 → Counts k k' (take n rest)
unfolding counted
counts_more k k' n rest le e m was = e ∙ stops m k n 18446744073709551615 was ∙ ap (λ (v : ℕ). min (m + v) 18446744073709551615) (omega (arith, length-take n rest))

pub writes_two : (out out' out'' : Option (List ℕ)) (n n' n'' : ℕ) (a a' b b' : List ℕ) (ok : Bool) → a' ≡ a → b' ≡ b → Writes out out' n n' a' true → Writes out' out'' n' n'' b' ok → Writes out out'' n n'' (a ++ b) ok
writes_two out out' out'' n n' n'' a a' b b' ok ea eb p q =
    subst (λ v. Writes out out'' n n'' (v ++ b) ok) ea (subst (λ v. Writes out out'' n n'' (a' ++ v) ok) eb (writes_then out out' out'' n n' n'' a' b' ok p q))

pub writes_one : (out out' : Option (List ℕ)) (n n' : ℕ) (a a' b : List ℕ) (ok : Bool) → ok ≡ false → a' ≡ a → Writes out out' n n' a' ok → Writes out out' n n' (a ++ b) ok
writes_one out out' n n' a a' b ok not ea p =
    subst (λ v. Writes out out' n n' (a ++ b) v) (sym not)
    (subst (λ v. Writes out out' n n' (v ++ b) false) ea (writes_cut_short out out' n n' a' b (subst (λ v. Writes out out' n n' a' v) not p)))

pub writes_as : (out out' : Option (List ℕ)) (n n' : ℕ) (a a' : List ℕ) (ok : Bool) → a' ≡ a → Writes out out' n n' a' ok → Writes out out' n n' a ok
writes_as out out' n n' a a' ok e p = subst (λ v. Writes out out' n n' v ok) e p

-- nothing, and then a text
pub writes_last : (out out' : Option (List ℕ)) (n n' : ℕ) (a b b' : List ℕ) (ok : Bool) → length a ≡ 0 → b' ≡ b → Writes out out' n n' b' ok → Writes out out' n n' (a ++ b) ok
writes_last out out' n n' [] b b' ok none eb p = subst (λ v. Writes out out' n n' v ok) eb p
writes_last out out' n n' (x ∷ xs) b b' ok none eb p = absurd (omega (arith, none))

-- a count that began at 0
pub count_is : (n : ℕ) (text : List ℕ) → Counts 0 n text → n ≡ counted (length text)
unfolding counted
count_is n text c = c 0 refl ∙ ap counted (omega arith)

-- a text is written as far as the writer takes it
pub as_far_as : (r : Bool) (a b : Option (List ℕ)) (text : List ℕ) → MatchBool r (Appends a b text) (AppendsPart a b text) → AppendsFront a b text
as_far_as true a b text whole = (text, [], sym (append-nil text), whole)
as_far_as false a b text (front, rest, is, more, part) = (front, rest, is, part)
