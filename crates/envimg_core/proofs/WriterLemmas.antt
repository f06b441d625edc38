-- What writes into an image leave.
use Rattle.std.proofs.Common.{◌≡◌, ℕ, zero, suc, ◌+◌, ◌-◌, ◌<◌, ◌≤◌, ◌++◌, List, [], ◌∷◌, length, take, drop, set, replicate, refl, sym, ap, ◌∙◌, arith, append_assoc, length-append, length-drop, length-take}
use Rattle.std.proofs.lemmas.List.{drop-append-le, drop-set, drop-set-lt, drop-take, drop-drop}
use Rattle.std.proofs.Math.Seq.{take-append_seam, drop-append-add}
use Rattle.envimg_core.specs.Geometry.{Shape, head}
use Rattle.envimg_core.specs.declared.geometry.Layout.{Layout}
use Rattle.envimg_core.specs.declared.geometry.Order.{Order}
use Rattle.envimg_core.specs.Steps.{spliced}
use Rattle.envimg_core.specs.Image.{stored_pair, framed, filled_area, image_with}

-- a prefix of n elements
take_front : (n : ℕ) (xs ys : List ℕ) → length xs ≡ n → take n (xs ++ ys) ≡ xs
take_front n xs ys e = ap (λ (m : ℕ). take m (xs ++ ys)) (sym e) ∙ take-append_seam xs ys

drop_front : (n m : ℕ) (xs ys : List ℕ) → length xs ≡ n → drop (n + m) (xs ++ ys) ≡ drop m ys
drop_front n m xs ys e = ap (λ (k : ℕ). drop (k + m) (xs ++ ys)) (sym e) ∙ drop-append-add xs ys m

-- two writes side by side are one
pub splice_twice : (i j : ℕ) (a b xs : List ℕ) → j ≡ i + length a → i + length a + length b ≤ length xs → spliced j b (spliced i a xs) ≡ spliced i (a ++ b) xs
splice_twice i j a b xs e h =
    let front : length (take i xs ++ a) ≡ j = omega (arith, length-append (take i xs) a, length-take i xs) in
    let one : take j (spliced i a xs) ≡ take i xs ++ a = take_front j (take i xs ++ a) (drop (i + length a) xs) front in
    let two : drop (j + length b) (spliced i a xs) ≡ drop (i + length (a ++ b)) xs =
    drop_front j (length b) (take i xs ++ a) (drop (i + length a) xs) front
    ∙ drop-drop (length b) (i + length a) xs
    ∙ ap (λ (k : ℕ). drop k xs) (let k : i + length a + length b ≡ i + length (a ++ b) = omega (arith, length-append a b) in k) in
    ap (λ ys. ys ++ b ++ drop (j + length b) (spliced i a xs)) one
    ∙ ap (λ ys. take i xs ++ a ++ b ++ ys) two
    ∙ ap (λ ys. ys ++ drop (i + length (a ++ b)) xs) (append_assoc (take i xs) a b)

pub length-spliced : (i : ℕ) (a xs : List ℕ) → i + length a ≤ length xs → length (spliced i a xs) ≡ length xs
length-spliced i a xs h = omega (arith, length-append (take i xs ++ a) (drop (i + length a) xs), length-append (take i xs) a, length-take i xs, length-drop (i + length a) xs)

pub store_four : (i : ℕ) (n v xs : List ℕ) → i + (length n + length v + 2) ≤ length xs →
    spliced (i + length n + 1 + length v) (0 ∷ []) (spliced (i + length n + 1) v (spliced (i + length n) (61 ∷ []) (spliced i n xs))) ≡ spliced i (stored_pair (n, v)) xs
store_four i n v xs h =
    ap (λ ys. spliced (i + length n + 1 + length v) (0 ∷ []) (spliced (i + length n + 1) v ys)) (splice_twice i (i + length n) n (61 ∷ []) xs refl (omega arith))
    ∙ ap (spliced (i + length n + 1 + length v) (0 ∷ [])) (splice_twice i (i + length n + 1) (n ++ 61 ∷ []) v xs (omega (arith, length-append n (61 ∷ []))) (omega (arith, length-append n (61 ∷ []))))
    ∙ splice_twice i (i + length n + 1 + length v) (n ++ (61 ∷ []) ++ v) (0 ∷ []) xs (omega (arith, length-append n (61 ∷ []), length-append (n ++ 61 ∷ []) v)) (omega (arith, length-append n (61 ∷ []), length-append (n ++ 61 ∷ []) v))
    ∙ ap (λ ys. spliced i ys xs) (ap (λ ys. ys ++ 0 ∷ []) (append_assoc n (61 ∷ []) v))

-- an entry after the others
pub written_more : (h s : ℕ) (e xs : List ℕ) → h + s + length e ≤ length xs → take (s + length e) (drop h (spliced (h + s) e xs)) ≡ take s (drop h xs) ++ e
written_more h s e xs l =
    let all : length (take (h + s) xs ++ e) ≡ h + s + length e = omega (arith, length-append (take (h + s) xs) e, length-take (h + s) xs) in
    let short : h ≤ length (take (h + s) xs) = omega (arith, length-take (h + s) xs) in
    let count : length (take s (drop h xs) ++ e) ≡ s + length e = omega (arith, length-append (take s (drop h xs)) e, length-take s (drop h xs), length-drop h xs) in
    ap (take (s + length e))
    (drop-append-le h (take (h + s) xs ++ e) (drop (h + s + length e) xs) (omega arith)
    ∙ ap (λ ys. ys ++ drop (h + s + length e) xs) (drop-append-le h (take (h + s) xs) e short ∙ ap (λ ys. ys ++ e) (drop-take h s xs)))
    ∙ take_front (s + length e) (take s (drop h xs) ++ e) (drop (h + s + length e) xs) count

zeros_first : (n : ℕ) → 0 < n → ◌≡◌ {A = List ℕ} (replicate n 0) (0 ∷ replicate (n - 1) 0)
zeros_first zero h = absurd (omega arith)
zeros_first (suc n) h = ap (λ (m : ℕ). 0 ∷ replicate m 0) (let e : n ≡ suc n - 1 = omega arith in e)

-- the data area after the last entry is cleared
pub cleared : (h s z : ℕ) (xs : List ℕ) → length xs ≡ z → h + s + 1 ≤ z → drop h (take (h + s) xs ++ replicate (length xs - (h + s)) 0) ≡ filled_area (z - h) (take s (drop h xs))
cleared h s z xs e l =
    let short : h ≤ length (take (h + s) xs) = omega (arith, length-take (h + s) xs) in
    let count : length (take s (drop h xs)) ≡ s = omega (arith, length-take s (drop h xs), length-drop h xs) in
    drop-append-le h (take (h + s) xs) (replicate (length xs - (h + s)) 0) short
    ∙ ap (λ ys. ys ++ replicate (length xs - (h + s)) 0) (drop-take h s xs)
    ∙ ap (λ ys. take s (drop h xs) ++ ys) (zeros_first (length xs - (h + s)) (omega arith)
    ∙ ap (λ (m : ℕ). 0 ∷ replicate m 0) (let k : length xs - (h + s) - 1 ≡ z - h - (length (take s (drop h xs)) + 1) = omega arith in k))

pub flag_written : (flag : ℕ) (xs : List ℕ) → 4 < length xs → drop 4 (set xs 4 flag) ≡ flag ∷ drop 5 xs
flag_written flag xs h = drop-set xs 4 flag h

pub behind_flag : (flag : ℕ) (xs : List ℕ) → drop 5 (set xs 4 flag) ≡ drop 5 xs
behind_flag flag xs = drop-set-lt 5 xs 4 flag (omega arith)

pub finished : (shape : Shape) (layout : Layout) (order : Order) (flag h s : ℕ) (xs ys zs : List ℕ) →
    h ≡ head shape.layout → layout ≡ shape.layout → order ≡ shape.order → length xs ≡ shape.size → head shape.layout + s + 1 ≤ shape.size →
    ys ≡ take (h + s) xs ++ replicate (length xs - (h + s)) 0 → zs ≡ framed layout order flag (drop (head layout) ys) →
    zs ≡ image_with shape flag (take s (drop (head shape.layout) xs))
finished shape layout order flag h s xs ys zs he le oe e l clear sealed =
    sealed
    ∙ ap (λ m. framed m order flag (drop (head m) ys)) le
    ∙ ap (λ o. framed shape.layout o flag (drop (head shape.layout) ys)) oe
    ∙ ap (framed shape.layout shape.order flag)
    (ap (drop (head shape.layout)) (clear ∙ ap (λ (k : ℕ). take (k + s) xs ++ replicate (length xs - (k + s)) 0) he)
    ∙ cleared (head shape.layout) s shape.size xs e l)

length-stored_pair : (n v : List ℕ) → length (stored_pair (n, v)) ≡ length n + length v + 2
length-stored_pair n v = omega (arith, length-append (n ++ 61 ∷ v) (0 ∷ []), length-append n (61 ∷ v))

pub put_written : (layout : Layout) (h s : ℕ) (n v xs ys : List ℕ) → h ≡ head layout → h + s + (length n + length v + 2) ≤ length xs →
    ys ≡ spliced (h + s) (stored_pair (n, v)) xs → take (s + (length n + length v + 2)) (drop (head layout) ys) ≡ take s (drop (head layout) xs) ++ stored_pair (n, v)
put_written layout h s n v xs ys e l w =
    let size : length (stored_pair (n, v)) ≡ length n + length v + 2 = length-stored_pair n v in
    ap (λ zs. take (s + (length n + length v + 2)) (drop (head layout) zs)) (w ∙ ap (λ (k : ℕ). spliced (k + s) (stored_pair (n, v)) xs) e)
    ∙ ap (λ (k : ℕ). take (s + k) (drop (head layout) (spliced (head layout + s) (stored_pair (n, v)) xs))) (sym size)
    ∙ written_more (head layout) s (stored_pair (n, v)) xs (omega arith)
