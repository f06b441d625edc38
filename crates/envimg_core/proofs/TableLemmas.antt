-- The register is linear, so each byte's part of it can be taken from a table.
use Rattle.std.proofs.Common.{◌≡◌, ℕ, zero, suc, ◌+◌, ◌-◌, ◌*◌, ◌/◌, ◌%◌, ◌^◌, ◌<◌, ◌≤◌, ◌++◌, Bool, true, false, cond, List, [], ◌∷◌, map, length, get_or, take, drop, bit_xor, refl, sym, ap, ◌∙◌, subst, arith, length-append, drop-cons}
use Rattle.std.specs.Prelude.{◌==◌}
use Rattle.std.specs.Int.{bytes_low_first}
use Rattle.std.specs.Int.Bits.{xor_zero_r, xor_assoc}
use Rattle.std.proofs.lemmas.List.{drop_all, take-append-drop}
use Rattle.std.proofs.lemmas.Nat.{xor_shr, xor_mod, xor_comm, xor_block, xor_lt, mod_below}
use Rattle.byteorder.specs.Endian.{little_from}
use Rattle.byteorder.specs.Numbers.{little_from-lt}
use Rattle.envimg_core.specs.Checksum.{xor}
use Rattle.envimg_core.specs.Register.{step, steps, advance, feed, mixed}
use Rattle.envimg_core.proofs.ChecksumLemmas.{low_xor}
use Rattle.envimg_core.specs.declared.checksum.tables.TheConstants.{TABLES}

swap_middle : (a b c d : ℕ) → bit_xor (bit_xor a b) (bit_xor c d) ≡ bit_xor (bit_xor a c) (bit_xor b d)
swap_middle a b c d =
    xor_assoc a b (bit_xor c d)
    ∙ ap (bit_xor a) (sym (xor_assoc b c d) ∙ ap (λ (x : ℕ). bit_xor x d) (xor_comm b c) ∙ xor_assoc c b d)
    ∙ sym (xor_assoc a c (bit_xor b d))

step_xor : (a b : ℕ) → step (bit_xor a b) ≡ bit_xor (step a) (step b)
unfolding step
step_xor a b =
    ap (λ t. cond t (bit_xor (bit_xor a b / 2) 0xEDB88320) (bit_xor a b / 2)) (low_xor a b)
    ∙ ap (λ (h : ℕ). cond (xor (a % 2 == 1) (b % 2 == 1)) (bit_xor h 0xEDB88320) h) (xor_shr a b 1)
    ∙ cases (a % 2 == 1) (b % 2 == 1) (a / 2) (b / 2)
  where
    cases : (s t : Bool) (x y : ℕ) → cond (xor s t) (bit_xor (bit_xor x y) 0xEDB88320) (bit_xor x y) ≡ bit_xor (cond s (bit_xor x 0xEDB88320) x) (cond t (bit_xor y 0xEDB88320) y)
    cases true true x y =
        sym (swap_middle x 0xEDB88320 y 0xEDB88320 ∙ xor_zero_r (bit_xor x y))
    cases true false x y = xor_assoc x y 0xEDB88320 ∙ ap (bit_xor x) (xor_comm y 0xEDB88320) ∙ sym (xor_assoc x 0xEDB88320 y)
    cases false true x y = xor_assoc x y 0xEDB88320
    cases false false x y = refl

steps_xor : (k a b : ℕ) → steps k (bit_xor a b) ≡ bit_xor (steps k a) (steps k b)
unfolding steps
steps_xor zero a b = refl
steps_xor (suc k) a b = ap (steps k) (step_xor a b) ∙ steps_xor k (step a) (step b)

advance_xor : (n a b : ℕ) → advance n (bit_xor a b) ≡ bit_xor (advance n a) (advance n b)
unfolding advance
advance_xor zero a b = refl
advance_xor (suc n) a b = ap (advance n) (steps_xor 8 a b) ∙ advance_xor n (steps 8 a) (steps 8 b)

-- a whole number of zeros leaves by shifting
step_even : (m : ℕ) → step (m * 2) ≡ m
unfolding step
step_even m =
    let odd : m * 2 % 2 ≡ 0 = omega arith in
    let half : m * 2 / 2 ≡ m = omega arith in
    ap (λ (d : ℕ). cond (d == 1) (bit_xor (m * 2 / 2) 0xEDB88320) (m * 2 / 2)) odd ∙ half

eight_even : (m : ℕ) → steps 8 (m * 256) ≡ m
unfolding steps
eight_even m =
    ap (steps 7) (ap step (let e : m * 256 ≡ m * 128 * 2 = omega arith in e) ∙ step_even (m * 128))
    ∙ ap (steps 6) (ap step (let e : m * 128 ≡ m * 64 * 2 = omega arith in e) ∙ step_even (m * 64))
    ∙ ap (steps 5) (ap step (let e : m * 64 ≡ m * 32 * 2 = omega arith in e) ∙ step_even (m * 32))
    ∙ ap (steps 4) (ap step (let e : m * 32 ≡ m * 16 * 2 = omega arith in e) ∙ step_even (m * 16))
    ∙ ap (steps 3) (ap step (let e : m * 16 ≡ m * 8 * 2 = omega arith in e) ∙ step_even (m * 8))
    ∙ ap (steps 2) (ap step (let e : m * 8 ≡ m * 4 * 2 = omega arith in e) ∙ step_even (m * 4))
    ∙ ap (steps 1) (ap step (let e : m * 4 ≡ m * 2 * 2 = omega arith in e) ∙ step_even (m * 2))
    ∙ step_even m

halves : (x : ℕ) → x ≡ bit_xor (x % 256) (x / 256 * 256)
halves x =
    sym (ap (λ (y : ℕ). bit_xor (x % 256) y) (let e : x / 256 * 256 ≡ x / 256 * 2 ^ 8 + 0 = omega arith in e)
    ∙ ap (λ (y : ℕ). bit_xor y (x / 256 * 2 ^ 8 + 0)) (let e : x % 256 ≡ 0 * 2 ^ 8 + x % 256 = omega arith in e)
    ∙ xor_block 8 0 (x / 256) (x % 256) 0 (mod_below x 256 (omega arith)) (omega arith)
    ∙ ap (λ (y : ℕ). x / 256 * 2 ^ 8 + y) (xor_zero_r (x % 256))
    ∙ (let e : x / 256 * 2 ^ 8 + x % 256 ≡ x = omega arith in e))

-- a byte leaves: the low byte's part from a table, the others by shifting
pub steps-low : (x : ℕ) → steps 8 x ≡ bit_xor (steps 8 (x % 256)) (x / 256)
steps-low x = ap (steps 8) (halves x) ∙ steps_xor 8 (x % 256) (x / 256 * 256) ∙ ap (bit_xor (steps 8 (x % 256))) (eight_even (x / 256))

advance-low : (n x : ℕ) → advance (suc n) x ≡ bit_xor (advance (suc n) (x % 256)) (advance n (x / 256))
unfolding advance
advance-low n x = ap (advance n) (steps-low x) ∙ advance_xor n (steps 8 (x % 256)) (x / 256)

-- ---- the tables

abbrev first_table : ℕ → ℕ → List ℕ
first_table i zero = []
first_table i (suc n) = steps 8 i ∷ first_table (i + 1) n

abbrev made : ℕ → List ℕ → List (List ℕ)
made zero row = []
made (suc n) row = row ∷ made n (map (steps 8) row)

tables_made : TABLES ≡ made 8 (first_table 0 256)
unfolding step steps
tables_made = refl

get-first_table : (i n k : ℕ) → k < n → get_or (first_table i n) k 0 ≡ steps 8 (i + k)
get-first_table i zero k h = absurd (omega arith)
get-first_table i (suc n) zero h = ap (steps 8) (let e : i ≡ i + 0 = omega arith in e)
get-first_table i (suc n) (suc k) h = get-first_table (i + 1) n k (omega arith) ∙ ap (steps 8) (let e : i + 1 + k ≡ i + suc k = omega arith in e)

get-map : (row : List ℕ) (i : ℕ) → i < length row → get_or (map (steps 8) row) i 0 ≡ steps 8 (get_or row i 0)
get-map [] i h = absurd (omega arith)
get-map (x ∷ row) zero h = refl
get-map (x ∷ row) (suc i) h = get-map row i (omega arith)

length-map-steps : (row : List ℕ) → length (map (steps 8) row) ≡ length row
length-map-steps [] = refl
length-map-steps (x ∷ row) = ap suc (length-map-steps row)

get-made : (n k i : ℕ) (row : List ℕ) → k < n → i < length row → get_or (get_or (made n row) k []) i 0 ≡ advance k (get_or row i 0)
unfolding advance
get-made zero k i row h l = absurd (omega arith)
get-made (suc n) zero i row h l = refl
get-made (suc n) (suc k) i row h l =
    get-made n k i (map (steps 8) row) (omega arith) (omega (arith, length-map-steps row))
    ∙ ap (advance k) (get-map row i l)

length-first_table : (i n : ℕ) → length (first_table i n) ≡ n
length-first_table i zero = refl
length-first_table i (suc n) = ap suc (length-first_table (i + 1) n)

pub table_entry : (k b : ℕ) → k < 8 → b < 256 → get_or (get_or TABLES k []) b 0 ≡ advance (k + 1) b
unfolding advance
table_entry k b h l =
    ap (λ ts. get_or (get_or ts k []) b 0) tables_made
    ∙ get-made 8 k b (first_table 0 256) h (omega (arith, length-first_table 0 256))
    ∙ ap (advance k) (get-first_table 0 256 b l ∙ ap (steps 8) (let e : 0 + b ≡ b = omega arith in e))
    ∙ (let e : suc k ≡ k + 1 = omega arith in ap (λ (n : ℕ). advance n b) e)

-- ---- many bytes

pub feed-append : (xs ys : List ℕ) (r : ℕ) → feed r (xs ++ ys) ≡ feed (feed r xs) ys
unfolding feed
feed-append [] ys r = refl
feed-append (x ∷ xs) ys r = feed-append xs ys (steps 8 (bit_xor r x))

-- bytes that go by in two parts
pub fed_on : (n r : ℕ) (xs : List ℕ) → feed (feed r (take n xs)) (drop n xs) ≡ feed r xs
fed_on n r xs = sym (feed-append (take n xs) (drop n xs) r) ∙ ap (feed r) (take-append-drop n xs)

-- the register's own part, and that of the bytes
feed-split : (bs : List ℕ) (r : ℕ) → feed r bs ≡ bit_xor (advance (length bs) r) (mixed 0 bs)
unfolding feed advance
feed-split [] r = sym (xor_zero_r r)
feed-split (b ∷ bs) r =
    feed-split bs (steps 8 (bit_xor r b))
    ∙ ap (λ (x : ℕ). bit_xor x (mixed 0 bs)) (ap (advance (length bs)) (steps_xor 8 r b) ∙ advance_xor (length bs) (steps 8 r) (steps 8 b))
    ∙ xor_assoc (advance (length bs) (steps 8 r)) (advance (length bs) (steps 8 b)) (mixed 0 bs)
    ∙ ap (λ (n : ℕ). bit_xor (advance (length bs) (steps 8 r)) (bit_xor (advance n b) (mixed 0 bs))) (let e : suc (length bs) ≡ suc (length bs) + 0 = omega arith in e)

mixed-append : (n : ℕ) (xs ys : List ℕ) → mixed n (xs ++ ys) ≡ bit_xor (mixed (length ys + n) xs) (mixed n ys)
mixed-append n [] ys = refl
mixed-append n (x ∷ xs) ys =
    ap (λ (m : ℕ). bit_xor (advance m x) (mixed n (xs ++ ys))) (let e : suc (length (xs ++ ys)) + n ≡ suc (length xs) + (length ys + n) = omega (arith, length-append xs ys) in e)
    ∙ ap (bit_xor (advance (suc (length xs) + (length ys + n)) x)) (mixed-append n xs ys)
    ∙ sym (xor_assoc (advance (suc (length xs) + (length ys + n)) x) (mixed (length ys + n) xs) (mixed n ys))

advance-nothing : (n : ℕ) → advance n 0 ≡ 0
unfolding advance steps step
advance-nothing zero = refl
advance-nothing (suc n) = advance-nothing n

-- the register as four bytes
low_of : (m n x : ℕ) → m ≡ suc n → advance m x ≡ bit_xor (advance m (x % 256)) (advance n (x / 256))
low_of m n x e = subst (λ k. advance k x ≡ bit_xor (advance k (x % 256)) (advance n (x / 256))) (sym e) (advance-low n x)

four_bytes : (n r : ℕ) → r < 2 ^ 32 → advance (4 + n) r ≡ mixed n (r % 256 ∷ r / 256 % 256 ∷ r / 65536 % 256 ∷ r / 16777216 % 256 ∷ [])
four_bytes n r h =
    low_of (4 + n) (3 + n) r (omega arith) ∙ ap (bit_xor (advance (4 + n) (r % 256)))
    (low_of (3 + n) (2 + n) (r / 256) (omega arith) ∙ ap (bit_xor (advance (3 + n) (r / 256 % 256)))
    (ap (advance (2 + n)) (let e : r / 256 / 256 ≡ r / 65536 = omega arith in e) ∙ low_of (2 + n) (1 + n) (r / 65536) (omega arith) ∙ ap (bit_xor (advance (2 + n) (r / 65536 % 256)))
    (ap (advance (1 + n)) (let e : r / 65536 / 256 ≡ r / 16777216 = omega arith in e) ∙ low_of (1 + n) n (r / 16777216) (omega arith) ∙ ap (bit_xor (advance (1 + n) (r / 16777216 % 256)))
    (ap (advance n) (let e : r / 16777216 / 256 ≡ 0 = omega arith in e) ∙ advance-nothing n))))

abbrev pub gets : List ℕ → ℕ → ℕ → List ℕ
gets xs i zero = []
gets xs i (suc n) = get_or xs i 0 ∷ gets xs (i + 1) n

drop-gets : (xs : List ℕ) (i n : ℕ) → length xs ≡ i + n → drop i xs ≡ gets xs i n
drop-gets xs i zero e = drop_all i xs (omega arith)
drop-gets xs i (suc n) e =
    drop-cons xs i 0 (omega arith) ∙ ap (λ (m : ℕ). get_or xs i 0 ∷ drop m xs) (let k : suc i ≡ i + 1 = omega arith in k) ∙ ap (λ ys. get_or xs i 0 ∷ ys) (drop-gets xs (i + 1) n (omega arith))

-- the number in the first four bytes, and its bytes again
word_bytes : (xs : List ℕ) → ((j : ℕ) → get_or xs j 0 < 2 ^ 8) → (w : ℕ) → w ≡ little_from 0 4 xs →
    (w % 256 ∷ w / 256 % 256 ∷ w / 65536 % 256 ∷ w / 16777216 % 256 ∷ []) ≡ gets xs 0 4
word_bytes xs small w e =
    let a : w % 256 ≡ get_or xs 0 0 = omega (arith, e, small 0, small 1, small 2, small 3) in
    let b : w / 256 % 256 ≡ get_or xs 1 0 = omega (arith, e, small 0, small 1, small 2, small 3) in
    let c : w / 65536 % 256 ≡ get_or xs 2 0 = omega (arith, e, small 0, small 1, small 2, small 3) in
    let d : w / 16777216 % 256 ≡ get_or xs 3 0 = omega (arith, e, small 0, small 1, small 2, small 3) in
    λ j. a j ∷ b j ∷ c j ∷ d j ∷ []

-- a block, as its last four bytes and its first four mixed with the register
pub block_fed : (r w : ℕ) (xs ys : List ℕ) → r < 2 ^ 32 → ((j : ℕ) → get_or xs j 0 < 2 ^ 8) → length xs ≡ 8 → w ≡ little_from 0 4 xs → ys ≡ bytes_low_first 0 4 (bit_xor r w) →
    bit_xor (mixed 0 (gets xs 4 4)) (mixed 4 ys) ≡ feed r xs
block_fed r w xs ys h small l e f =
    let last : ℕ = mixed 0 (gets xs 4 4) in
    let low : w < 2 ^ 32 = subst (λ v. v < 2 ^ 32) (sym e) (little_from-lt 0 4 xs small) in
    let word : advance 8 w ≡ mixed 4 (gets xs 0 4) = four_bytes 4 w low ∙ ap (mixed 4) (word_bytes xs small w e) in
    let first : mixed 4 ys ≡ bit_xor (advance 8 r) (mixed 4 (gets xs 0 4)) =
    ap (mixed 4) f ∙ sym (four_bytes 4 (bit_xor r w) (xor_lt 32 r w h low)) ∙ advance_xor 8 r w ∙ ap (bit_xor (advance 8 r)) word in
    xor_comm last (mixed 4 ys)
    ∙ ap (λ (m : ℕ). bit_xor m last) first
    ∙ xor_assoc (advance 8 r) (mixed 4 (gets xs 0 4)) last
    ∙ ap (bit_xor (advance 8 r)) (sym (ap (mixed 0) (drop-gets xs 0 8 l) ∙ mixed-append 0 (gets xs 0 4) (gets xs 4 4)))
    ∙ ap (λ (n : ℕ). bit_xor (advance n r) (mixed 0 xs)) (sym l)
    ∙ sym (feed-split xs r)

pub byte_fed : (r b : ℕ) → b < 256 → bit_xor (advance 1 (bit_xor (r % 256) b)) (r / 256) ≡ steps 8 (bit_xor r b)
unfolding advance
byte_fed r b h =
    sym (steps-low (bit_xor r b)
    ∙ ap (λ (m : ℕ). bit_xor (steps 8 m) (bit_xor r b / 256)) (xor_mod r b 8 ∙ ap (bit_xor (r % 256)) (let e : b % 256 ≡ b = omega arith in e))
    ∙ ap (bit_xor (steps 8 (bit_xor (r % 256) b))) (xor_shr r b 8 ∙ ap (bit_xor (r / 256)) (let e : b / 256 ≡ 0 = omega arith in e) ∙ xor_zero_r (r / 256)))

-- the next byte of those that are left
pub feed_next : (r : ℕ) (bs : List ℕ) (i : ℕ) → i < length bs → feed r (drop i bs) ≡ feed (steps 8 (bit_xor r (get_or bs i 0))) (drop (i + 1) bs)
unfolding feed
feed_next r bs i h =
    ap (feed r) (drop-cons bs i 0 h) ∙ ap (λ (n : ℕ). feed (steps 8 (bit_xor r (get_or bs i 0))) (drop n bs)) (let e : suc i ≡ i + 1 = omega arith in e)

pub feed_done : (r : ℕ) (bs : List ℕ) (i : ℕ) → length bs ≤ i → feed r (drop i bs) ≡ r
unfolding feed
feed_done r bs i h = ap (feed r) (drop_all i bs h)

pub steps_next : (k r : ℕ) → k < 8 → steps (8 - k) r ≡ steps (8 - (k + 1)) (step r)
unfolding steps
steps_next k r h = ap (λ (n : ℕ). steps n r) (let e : 8 - k ≡ suc (8 - (k + 1)) = omega arith in e)

pub steps_done : (k r : ℕ) → 8 ≤ k → steps (8 - k) r ≡ r
unfolding steps
steps_done k r h = ap (λ (n : ℕ). steps n r) (let e : 8 - k ≡ 0 = omega arith in e)
