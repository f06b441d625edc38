-- Tests, and the longest prefix whose bytes pass one.
use Rattle.std.specs.Prelude.{◌≡◌, ℕ, ◌==◌, Bool, true, false, not, if◌then◌else◌, List, [], ◌∷◌, ◌++◌, ◌≤◌, length}
use Rattle.std.specs.List.{list_all}
use Rattle.std.proofs.Common.{refl, sym, ap, subst, arith}
use Rattle.std.proofs.lemmas.Bool.{not-true, not_from_false, and_parts, eqb-true}
use Rattle.hush_words.specs.Words.{next}
use Rattle.hush_words.specs.Reading.{front, behind}

pub on_test : {A : Type 0} (t : Bool) (P : A → Type 0) (x y : A) →
    (t ≡ true → P x) → (t ≡ false → P y) → P (if t then x else y)
on_test true P x y h k = h refl
on_test false P x y h k = k refl

pub on_byte : {A : Type 0} (b k : ℕ) (P : ℕ → A → Type 0) (x y : A) →
    P k x → ((b == k) ≡ false → P b y) → P b (if b == k then x else y)
on_byte b k P x y h other =
    on_test (b == k) (P b) x y (λ e. subst (λ n. P n x) (sym (eqb-true b k e)) h) other

pub front-append : (test : ℕ → Bool) (n r : List ℕ) → list_all test n ≡ true → next (λ b. not (test b)) r ≡ true →
    front test (n ++ r) ≡ n
front-append test [] [] all stops = refl
front-append test [] (b ∷ bs) all stops = let e : test b ≡ false = not-true (test b) stops in rw e refl
front-append test (c ∷ cs) r all stops =
    let p = and_parts (test c) (list_all test cs) all in
    let e : test c ≡ true = p.0 in
    rw e (ap (λ (l : List ℕ). c ∷ l) (front-append test cs r p.1 stops))

pub behind-append : (test : ℕ → Bool) (n r : List ℕ) → list_all test n ≡ true → next (λ b. not (test b)) r ≡ true →
    behind test (n ++ r) ≡ r
behind-append test [] [] all stops = refl
behind-append test [] (b ∷ bs) all stops = let e : test b ≡ false = not-true (test b) stops in rw e refl
behind-append test (c ∷ cs) r all stops =
    let p = and_parts (test c) (list_all test cs) all in
    let e : test c ≡ true = p.0 in
    rw e (behind-append test cs r p.1 stops)

pub front-behind : (test : ℕ → Bool) (bs : List ℕ) → bs ≡ front test bs ++ behind test bs
front-behind test [] = refl
front-behind test (b ∷ bs) =
    elim (test b) as (λ t. b ∷ bs ≡ (if t then b ∷ front test bs else []) ++ (if t then behind test bs else b ∷ bs)) [
      | true ↦ ap (λ (l : List ℕ). b ∷ l) (front-behind test bs)
      | false ↦ refl
    ]

pub front-all : (test : ℕ → Bool) (bs : List ℕ) → list_all test (front test bs) ≡ true
front-all test [] = refl
front-all test (b ∷ bs) =
    on_test (test b) (λ l. list_all test l ≡ true) (b ∷ front test bs) []
    (λ e. rw e (front-all test bs)) (λ e. refl)

pub behind-next : (test : ℕ → Bool) (bs : List ℕ) → next (λ b. not (test b)) (behind test bs) ≡ true
behind-next test [] = refl
behind-next test (b ∷ bs) =
    on_test (test b) (λ l. next (λ k. not (test k)) l ≡ true) (behind test bs) (b ∷ bs)
    (λ e. behind-next test bs) (λ e. not_from_false (test b) e)

pub behind-length : (test : ℕ → Bool) (bs : List ℕ) → length (behind test bs) ≤ length bs
behind-length test [] = omega arith
behind-length test (b ∷ bs) =
    on_test (test b) (λ l. length l ≤ length (b ∷ bs)) (behind test bs) (b ∷ bs)
    (λ e. omega (arith, behind-length test bs)) (λ e. omega arith)
