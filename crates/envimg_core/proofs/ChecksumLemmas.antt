-- The register is the division: what the code computes and what the checksum is are one number.
use Rattle.std.proofs.Common.{◌≡◌, ℕ, zero, suc, ◌+◌, ◌*◌, ◌/◌, ◌%◌, ◌^◌, ◌<◌, ◌≤◌, ◌++◌, Bool, true, false, not, cond, List, [], ◌∷◌, map, length, replicate, bit_xor, refl, sym, ap, ◌∙◌, subst, arith, append_assoc, length-append, get_or, lit<}
use Rattle.std.specs.Prelude.{◌==◌}
use Rattle.std.proofs.Math.Nat.{pow-suc}
use Rattle.std.proofs.lemmas.Nat.{xor_shr, xor_mod, xor_lt, xor_comm, div_below, mod_below}
use Rattle.envimg_core.specs.Checksum.{xor, add, low_first, number, polynomial, divide, bits, checksum}
use Rattle.envimg_core.specs.Register.{step, steps, feed}

xor_assoc_bool : (a b c : Bool) → xor (xor a b) c ≡ xor a (xor b c)
xor_assoc_bool true true true = refl
xor_assoc_bool true true false = refl
xor_assoc_bool true false c = refl
xor_assoc_bool false b c = refl

pub add-nil : (xs : List Bool) → add xs [] ≡ xs
add-nil [] = refl
add-nil (x ∷ xs) = refl

pub add_assoc_list : (xs ys zs : List Bool) → add (add xs ys) zs ≡ add xs (add ys zs)
add_assoc_list [] ys zs = refl
add_assoc_list (x ∷ xs) [] zs = refl
add_assoc_list (x ∷ xs) (y ∷ ys) [] = refl
add_assoc_list (x ∷ xs) (y ∷ ys) (z ∷ zs) = λ i. xor_assoc_bool x y z i ∷ add_assoc_list xs ys zs i

-- the lowest bit of a sum
pub low_xor : (a b : ℕ) → (bit_xor a b % 2 == 1) ≡ xor (a % 2 == 1) (b % 2 == 1)
low_xor a b =
    let digit : (x y : ℕ) → x < 2 → y < 2 → (bit_xor x y == 1) ≡ xor (x == 1) (y == 1) = digits in
    ap (λ (m : ℕ). m == 1) (xor_mod a b 1) ∙ digit (a % 2) (b % 2) (mod_below a 2 (omega arith)) (mod_below b 2 (omega arith))
  where
    digits : (x y : ℕ) → x < 2 → y < 2 → (bit_xor x y == 1) ≡ xor (x == 1) (y == 1)
    digits zero zero p q = refl
    digits zero (suc zero) p q = refl
    digits zero (suc (suc y)) p q = absurd (omega arith)
    digits (suc zero) zero p q = refl
    digits (suc zero) (suc zero) p q = refl
    digits (suc zero) (suc (suc y)) p q = absurd (omega arith)
    digits (suc (suc x)) y p q = absurd (omega arith)

below_one : (a : ℕ) → a < 2 ^ 0 → a ≡ 0
below_one a h = omega arith

half_below : (a k : ℕ) → a < 2 ^ suc k → a / 2 < 2 ^ k
half_below a k h = div_below a 2 (2 ^ k) (omega arith) (rw pow-suc at h)

-- two numbers, bit by bit
pub add_low : (k n a b : ℕ) → a < 2 ^ k → k ≤ n → add (low_first k a) (low_first n b) ≡ low_first n (bit_xor a b)
add_low zero n a b h l = ap (λ (x : ℕ). low_first n (bit_xor x b)) (sym (below_one a h))
add_low (suc k) zero a b h l = absurd (omega arith)
add_low (suc k) (suc n) a b h l =
    let rest : add (low_first k (a / 2)) (low_first n (b / 2)) ≡ low_first n (bit_xor a b / 2) =
    add_low k n (a / 2) (b / 2) (half_below a k h) (omega arith) ∙ ap (low_first n) (sym (xor_shr a b 1)) in
    λ i. sym (low_xor a b) i ∷ rest i

-- a prefix of zeros
add_front : (k n : ℕ) (xs : List Bool) → add (low_first k n) (replicate k false ++ xs) ≡ low_first k n ++ xs
add_front zero n xs = refl
add_front (suc k) n xs =
    λ i. flat (n % 2 == 1) i ∷ add_front k (n / 2) xs i
  where
    flat : (b : Bool) → xor b false ≡ b
    flat true = refl
    flat false = refl

pub length-low_first : (k n : ℕ) → length (low_first k n) ≡ k
length-low_first zero n = refl
length-low_first (suc k) n = ap suc (length-low_first k (n / 2))

-- one zero bit more changes nothing if the other list is as long
add_short : (k n : ℕ) (xs : List Bool) → n < 2 ^ k → k < length xs → add xs (low_first k n) ≡ add xs (low_first (suc k) n)
add_short k n [] h l = absurd (omega arith)
add_short zero n (x ∷ xs) h l =
    let z : n ≡ 0 = below_one n h in
    subst (λ (m : ℕ). x ∷ xs ≡ add (x ∷ xs) (low_first 1 m)) (sym z) (λ i. sym (flat x) i ∷ sym (add-nil xs) i)
  where
    flat : (b : Bool) → xor b false ≡ b
    flat true = refl
    flat false = refl
add_short (suc k) n (x ∷ xs) h l = ap (λ ys. xor x (n % 2 == 1) ∷ ys) (add_short k (n / 2) xs (half_below n k h) (omega arith))

low_last : (n : ℕ) (xs : List Bool) → n < 2 ^ 31 → 31 < length xs → add xs (low_first 31 n) ≡ add xs (low_first 32 n)
low_last n xs h l = add_short 31 n xs h l

-- one bit of the division is one step of the register
divide_step : (n r : ℕ) (xs : List Bool) → r < 2 ^ 32 → 31 < length xs → divide (suc n) (add (false ∷ xs) (low_first 32 r)) ≡ divide n (add xs (low_first 32 (step r)))
unfolding divide step
divide_step n r xs h l =
    elim (r % 2 == 1) as (λ b. divide (suc n) (b ∷ add xs (low_first 31 (r / 2))) ≡ divide n (add xs (low_first 32 (cond b (bit_xor (r / 2) 0xEDB88320) (r / 2))))) [
      | true ↦ ap (divide n) (add_assoc_list xs (low_first 31 (r / 2)) polynomial ∙ ap (add xs) (add_low 31 32 (r / 2) 0xEDB88320 (half_below r 31 h) (omega arith)))
      | false ↦ ap (divide n) (low_last (r / 2) xs (half_below r 31 h) l)
    ]

pub step_below : (r : ℕ) → r < 2 ^ 32 → step r < 2 ^ 32
unfolding step
step_below r h =
    elim (r % 2 == 1) as (λ b. cond b (bit_xor (r / 2) 0xEDB88320) (r / 2) < 2 ^ 32) [
      | true ↦ xor_lt 32 (r / 2) 0xEDB88320 (omega arith) (omega arith)
      | false ↦ omega arith
    ]

pub steps_below : (k r : ℕ) → r < 2 ^ 32 → steps k r < 2 ^ 32
unfolding steps
steps_below zero r h = h
steps_below (suc k) r h = steps_below k (step r) (step_below r h)

divide_steps : (k n r : ℕ) (xs : List Bool) → r < 2 ^ 32 → 31 < length xs → divide (k + n) (add (replicate k false ++ xs) (low_first 32 r)) ≡ divide n (add xs (low_first 32 (steps k r)))
unfolding steps
divide_steps zero n r xs h l = ap (λ (m : ℕ). divide m (add xs (low_first 32 r))) (let e : 0 + n ≡ n = omega arith in e)
divide_steps (suc k) n r xs h l =
    let long : 31 < length (replicate k false ++ xs) = omega (arith, length-append (replicate k false) xs) in
    let one : suc k + n ≡ suc (k + n) = omega arith in
    ap (λ (m : ℕ). divide m (add (false ∷ (replicate k false ++ xs)) (low_first 32 r))) one
    ∙ divide_step (k + n) r (replicate k false ++ xs) h long
    ∙ divide_steps k n (step r) xs (step_below r h) l

-- a byte before the others is that byte in the register
byte_front : (b r : ℕ) (xs : List Bool) → b < 2 ^ 8 → add (low_first 8 b ++ xs) (low_first 32 r) ≡ add (replicate 8 false ++ xs) (low_first 32 (bit_xor r b))
byte_front b r xs h =
    ap (λ ys. add ys (low_first 32 r)) (sym (add_front 8 b xs) ∙ add_comm_list (low_first 8 b) (replicate 8 false ++ xs))
    ∙ add_assoc_list (replicate 8 false ++ xs) (low_first 8 b) (low_first 32 r)
    ∙ ap (add (replicate 8 false ++ xs)) (add_low 8 32 b r h (omega arith) ∙ ap (low_first 32) (xor_comm b r))
  where
    xor_comm_bool : (a c : Bool) → xor a c ≡ xor c a
    xor_comm_bool true true = refl
    xor_comm_bool true false = refl
    xor_comm_bool false true = refl
    xor_comm_bool false false = refl

    add_comm_list : (ys zs : List Bool) → add ys zs ≡ add zs ys
    add_comm_list [] zs = sym (add-nil zs)
    add_comm_list (y ∷ ys) [] = refl
    add_comm_list (y ∷ ys) (z ∷ zs) = λ i. xor_comm_bool y z i ∷ add_comm_list ys zs i

pub divide_feed : (bs : List ℕ) (r : ℕ) → ((i : ℕ) → get_or bs i 0 < 2 ^ 8) → r < 2 ^ 32 →
    divide (length (bits bs)) (add (bits bs ++ replicate 32 false) (low_first 32 r)) ≡ low_first 32 (feed r bs)
unfolding feed divide
divide_feed [] r small h = zeros
  where
    zeros : add (replicate 32 false) (low_first 32 r) ≡ low_first 32 r
    zeros = refl
divide_feed (b ∷ bs) r small h =
    let byte : b < 2 ^ 8 = small 0 in
    let mixed : bit_xor r b < 2 ^ 32 = xor_lt 32 r b h (omega arith) in
    let tail : List Bool = bits bs ++ replicate 32 false in
    let long : 31 < length tail = omega (arith, length-append (bits bs) (replicate 32 false)) in
    let count : length (low_first 8 b ++ bits bs) ≡ 8 + length (bits bs) = length-append (low_first 8 b) (bits bs) in
    ap (λ (m : ℕ). divide m (add ((low_first 8 b ++ bits bs) ++ replicate 32 false) (low_first 32 r))) count
    ∙ ap (λ ys. divide (8 + length (bits bs)) (add ys (low_first 32 r))) (append_assoc (low_first 8 b) (bits bs) (replicate 32 false))
    ∙ ap (divide (8 + length (bits bs))) (byte_front b r tail byte)
    ∙ divide_steps 8 (length (bits bs)) (bit_xor r b) tail mixed long
    ∙ divide_feed bs (steps 8 (bit_xor r b)) (λ i. small (suc i)) (steps_below 8 (bit_xor r b) mixed)

pub feed_below : (bs : List ℕ) (r : ℕ) → ((i : ℕ) → get_or bs i 0 < 2 ^ 8) → r < 2 ^ 32 → feed r bs < 2 ^ 32
unfolding feed
feed_below [] r small h = h
feed_below (b ∷ bs) r small h =
    let byte : b < 2 ^ 8 = small 0 in
    feed_below bs (steps 8 (bit_xor r b)) (λ i. small (suc i)) (steps_below 8 (bit_xor r b) (xor_lt 32 r b h (omega arith)))

map_not : (k n : ℕ) → map not (low_first k n) ≡ add (low_first k n) (replicate k true)
map_not zero n = refl
map_not (suc k) n = λ i. flip (n % 2 == 1) i ∷ map_not k (n / 2) i
  where
    flip : (b : Bool) → not b ≡ xor b true
    flip true = refl
    flip false = refl

number_low : (k n : ℕ) → n < 2 ^ k → number (low_first k n) ≡ n
number_low zero n h = sym (below_one n h)
number_low (suc k) n h = ap (λ (m : ℕ). cond (n % 2 == 1) 1 0 + 2 * m) (number_low k (n / 2) (half_below n k h)) ∙ joined n
  where
    joined : (m : ℕ) → cond (m % 2 == 1) 1 0 + 2 * (m / 2) ≡ m
    joined m = parity (m % 2) (mod_below m 2 (omega arith)) (omega arith)
      where
        parity : (d : ℕ) → d < 2 → 2 * (m / 2) + d ≡ m → cond (d == 1) 1 0 + 2 * (m / 2) ≡ m
        parity zero l e = omega arith
        parity (suc zero) l e = omega arith
        parity (suc (suc d)) l e = absurd (omega arith)

-- the checksum is the register, inverted at both ends
pub checksum-feed : (bs : List ℕ) → ((i : ℕ) → get_or bs i 0 < 2 ^ 8) → checksum bs ≡ bit_xor (feed 0xFFFFFFFF bs) 0xFFFFFFFF
unfolding checksum
checksum-feed bs small =
    let all : 0xFFFFFFFF < 2 ^ 32 = lit< tt in
    let low : feed 0xFFFFFFFF bs < 2 ^ 32 = feed_below bs 0xFFFFFFFF small all in
    ap (λ ds. number (map not ds)) (divide_feed bs 0xFFFFFFFF small all)
    ∙ ap number (map_not 32 (feed 0xFFFFFFFF bs) ∙ add_low 32 32 (feed 0xFFFFFFFF bs) 0xFFFFFFFF low (omega arith))
    ∙ number_low 32 (bit_xor (feed 0xFFFFFFFF bs) 0xFFFFFFFF) (xor_lt 32 (feed 0xFFFFFFFF bs) 0xFFFFFFFF low all)
