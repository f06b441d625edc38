-- Matches, a bit for each of 32 bytes.
use Rattle.std.proofs.Common.{◌≡◌, ◌≢◌, ◌↔◌, ◌+◌, ◌-◌, Some, Greater, take-take, ℕ, zero, suc, ◌%◌, ◌^◌, ◌<◌, ◌≤◌, List, [], ◌∷◌, Bool, true, false, not, cond, eqb, length, take, get_or, replicate, refl, sym, ap, ◌∙◌, arith, length-take-le, get_or-take, eqb-true, ⊎_elim}
use Rattle.std.specs.Int.{bit_at}
use Rattle.std.specs.Simd.Lanes.{zip2, mask_l}
use Rattle.std.proofs.lemmas.Simd.{length-zip2, get_or-zip2, get_or-replicate, bit_mask_l, mask_l-mod}
use Rattle.std.proofs.lemmas.Bool.{cases_lt, eqb-false}
use Rattle.memchr.specs.Find.{IsFirstByte, is_byte}
use Rattle.envimg_core.specs.Environment.{bytes_cmp}
use Rattle.envvars_store.specs.Order.{IsShared}
use Rattle.envvars_store.proofs.CompareLemmas.{rises_longer, rises_byte}

past : (ms : List Bool) (k : ℕ) → length ms ≤ k → get_or ms k false ≡ false
past [] k h = refl
past (m ∷ ms) zero h = absurd (omega arith)
past (m ∷ ms) (suc k) h = past ms k (omega arith)

tells : (x b : ℕ) (t : Bool) → eqb x b ≡ t → (cond {A = ℕ} t 1 0 ≡ 1) ↔ (x ≡ b)
tells x b true e = (λ h. eqb-true x b e, λ h. refl)
tells x b false e = (λ h. absurd (omega arith), λ h. absurd (eqb-false x b e h))

clear : (k : ℕ) (P : Type 0) (m : ℕ) → 32 ≤ k → m ≡ 0 → (m ≡ 1) ↔ ((k < 32) × P)
clear k P m h z = (λ e. absurd (omega arith), λ p. absurd (omega (arith, p.0)))

abbrev pub IsMatch : List ℕ → ℕ → ℕ → ℕ → Type 0
IsMatch xs b m k = (bit_at m k ≡ 1) ↔ ((k < 32) × (get_or xs k 0 ≡ b))

-- the bits of a comparison with one byte
pub matched : (xs : List ℕ) (b k : ℕ) → 32 ≤ length xs → IsMatch xs b (mask_l (zip2 eqb (take 32 xs) (replicate 32 b)) % 2 ^ 64) k
matched xs b k h =
    let long : length (take 32 xs) ≡ 32 = length-take-le 32 xs h in
    let ms = zip2 eqb (take 32 xs) (replicate 32 b) in
    let many : length ms ≡ 32 = length-zip2 eqb (take 32 xs) (replicate 32 b) long ∙ long in
    let bit : bit_at (mask_l ms % 2 ^ 64) k ≡ cond (get_or ms k false) 1 0 = ap (λ m. bit_at m k) (mask_l-mod ms 64 (omega arith)) ∙ bit_mask_l ms k in
    ⊎_elim
    (λ l.
    let same : eqb (get_or xs k 0) b ≡ get_or ms k false = sym (get_or-zip2 eqb (take 32 xs) (replicate 32 b) k 0 0 false (omega arith) l ∙ (λ i. eqb (get_or-take 32 xs k 0 l i) (get_or-replicate 32 k b 0 l i))) in
    let t = tells (get_or xs k 0) b (get_or ms k false) same in
    (λ e. (l, t.0 (sym bit ∙ e)), λ p. bit ∙ t.1 p.1))
    (λ g. clear k _ _ g (bit ∙ ap (λ m. cond m 1 0) (past ms k (omega arith))))
    (cases_lt k 32)

untells : (x y : ℕ) (t : Bool) → not (eqb x y) ≡ t → ((cond {A = ℕ} t 1 0 ≡ 1) → x ≢ y) × ((cond {A = ℕ} t 1 0 ≡ 0) → x ≡ y)
untells x y t e =
    elim (eqb x y) as (λ b. eqb x y ≡ b → not b ≡ t → ((cond {A = ℕ} t 1 0 ≡ 1) → x ≢ y) × ((cond {A = ℕ} t 1 0 ≡ 0) → x ≡ y)) [
      | true ↦ λ is f. (λ h. absurd (omega (arith, ap (λ u. cond {A = ℕ} u 1 0) f)), λ h. eqb-true x y is)
      | false ↦ λ is f. (λ h. eqb-false x y is, λ h. absurd (omega (arith, ap (λ u. cond {A = ℕ} u 1 0) f)))
    ] refl e

abbrev pub Differ : List ℕ → List ℕ → ℕ → ℕ → Type 0
Differ xs ys m k = (bit_at m k ≡ 1 → (k < 32) × (get_or xs k 0 ≢ get_or ys k 0)) × (k < 32 → bit_at m k ≡ 0 → get_or xs k 0 ≡ get_or ys k 0)

-- the bits of a comparison of two texts
pub differ : (xs ys : List ℕ) (k : ℕ) → 32 ≤ length xs → 32 ≤ length ys → Differ xs ys (mask_l (zip2 (λ x y. not (eqb x y)) (take 32 xs) (take 32 ys)) % 2 ^ 64) k
differ xs ys k h g =
    let long : length (take 32 xs) ≡ 32 = length-take-le 32 xs h in
    let wide : length (take 32 ys) ≡ 32 = length-take-le 32 ys g in
    let ms = zip2 (λ x y. not (eqb x y)) (take 32 xs) (take 32 ys) in
    let many : length ms ≡ 32 = length-zip2 (λ x y. not (eqb x y)) (take 32 xs) (take 32 ys) (long ∙ sym wide) ∙ long in
    let bit : bit_at (mask_l ms % 2 ^ 64) k ≡ cond (get_or ms k false) 1 0 = ap (λ m. bit_at m k) (mask_l-mod ms 64 (omega arith)) ∙ bit_mask_l ms k in
    ⊎_elim
    (λ l.
    let same : not (eqb (get_or xs k 0) (get_or ys k 0)) ≡ get_or ms k false = sym (get_or-zip2 (λ x y. not (eqb x y)) (take 32 xs) (take 32 ys) k 0 0 false (omega arith) (omega arith) ∙ (λ i. not (eqb (get_or-take 32 xs k 0 l i) (get_or-take 32 ys k 0 l i)))) in
    let t = untells (get_or xs k 0) (get_or ys k 0) (get_or ms k false) same in
    (λ e. (l, t.0 (sym bit ∙ e)), λ w z. t.1 (sym bit ∙ z)))
    (λ w. (λ e. absurd (omega (arith, bit ∙ ap (λ m. cond {A = ℕ} m 1 0) (past ms k (omega arith)))), λ l z. absurd (omega arith)))
    (cases_lt k 32)

agree : (xs ys : List ℕ) (n : ℕ) → n ≤ length xs → n ≤ length ys → ((k : ℕ) → k < n → get_or xs k 0 ≡ get_or ys k 0) → take n xs ≡ take n ys
agree xs ys zero h g e = refl
agree [] ys (suc n) h g e = absurd (omega arith)
agree (x ∷ xs) [] (suc n) h g e = absurd (omega arith)
agree (x ∷ xs) (y ∷ ys) (suc n) h g e = (λ i. e 0 (omega arith) i ∷ agree xs ys n (omega arith) (omega arith) (λ k l. e (suc k) (omega arith)) i)

-- the name goes on after the last one, or differs from it by a greater byte
pub near_longer : (xs ys : List ℕ) (s n l : ℕ) → s < 32 → 32 ≤ length xs → n ≤ length xs → l ≤ length ys → 32 ≤ length ys → ((k : ℕ) → k < s → get_or xs k 0 ≡ get_or ys k 0) → l ≤ s → l < n → bytes_cmp (take n xs) (take l ys) ≡ Greater
near_longer xs ys s n l b h w v g e le lt =
    let long : length (take l ys) ≡ l = length-take-le l ys v in
    let all : l + (n - l) ≡ n = omega arith in
    let shared : IsShared xs (take l ys) l = record { first = omega arith; second = omega arith; same = agree xs ys l (omega arith) v (λ k m. e k (omega arith)) ∙ sym (take-take l l ys (omega arith)); differ = λ p q. absurd (omega arith) } in
    ap (λ m. bytes_cmp (take m xs) (take l ys)) (sym all) ∙ rises_longer xs (take l ys) l (n - l) shared (omega arith) (omega arith) (sym long)

pub near_byte : (xs ys : List ℕ) (s n l : ℕ) → s < 32 → 32 ≤ length xs → n ≤ length xs → l ≤ length ys → 32 ≤ length ys → ((k : ℕ) → k < s → get_or xs k 0 ≡ get_or ys k 0) → s < l → s < n → get_or ys s 0 < get_or xs s 0 → bytes_cmp (take n xs) (take l ys) ≡ Greater
near_byte xs ys s n l b h w v g e sl sn lt =
    let long : length (take l ys) ≡ l = length-take-le l ys v in
    let all : s + (n - s) ≡ n = omega arith in
    let at : get_or (take l ys) s 0 ≡ get_or ys s 0 = get_or-take l ys s 0 sl in
    let shared : IsShared xs (take l ys) s = record { first = omega arith; second = omega arith; same = agree xs ys s (omega arith) (omega arith) e ∙ sym (take-take s l ys (omega arith)); differ = λ p q r. absurd (omega (arith, at, r)) } in
    ap (λ m. bytes_cmp (take m xs) (take l ys)) (sym all) ∙ rises_byte xs (take l ys) s (n - s) shared (omega arith) (omega arith) (omega arith) (omega arith)

-- the first in a text is the first in a prefix of it that reaches past it
pub first_in_front : (a n : ℕ) (xs : List ℕ) (k : ℕ) → IsFirstByte (is_byte a) xs (Some k) → k < n → n ≤ length xs → IsFirstByte (is_byte a) (take n xs) (Some k)
first_in_front a n xs k f l w =
    (record { low = omega arith; high = omega (arith, length-take-le n xs w); before = λ i b h t. f.0.before i b h (ap (is_byte a) (sym (get_or-take n xs i 0 (omega arith))) ∙ t) }, ap (is_byte a) (get_or-take n xs k 0 l) ∙ f.1)

pub own_front : (n : ℕ) (xs : List ℕ) → take n xs ≡ take (length (take n xs)) xs
own_front zero xs = refl
own_front (suc n) [] = refl
own_front (suc n) (x ∷ xs) = ap (λ r. x ∷ r) (own_front n xs)

pub not_false : (b : Bool) → not b ≡ false → b ≡ true
not_false true e = refl
not_false false e = cc
