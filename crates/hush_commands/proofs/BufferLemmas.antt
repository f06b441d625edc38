-- Fields in one buffer.
use Rattle.std.proofs.Common.{◌≡◌, ℕ, zero, suc, ◌+◌, ◌-◌, ◌≤◌, Bool, true, false, List, [], ◌∷◌, ◌++◌, take, drop, length, sum, Some, refl, sym, ap, ◌∙◌, arith, length-drop}
use Rattle.std.proofs.lemmas.List.{drop-append-le, take-append-le, drop-drop}
use Rattle.std.proofs.lemmas.List.Sums.{sum_by-cons}
use Rattle.std.proofs.Math.ListN.{drop_of_length-le}
use Rattle.std.proofs.Math.Seq.{take-length}
use Rattle.hush_calc.specs.Fields.{pieces}
use Rattle.hush_commands.specs.Buffers.{Made, whole, opened, with_bytes, ended, begun_at, made, Rests, IsBuffer}

sum-first : (n : ℕ) (ns : List ℕ) → sum (n ∷ ns) ≡ n + sum ns
sum-first n ns = sum_by-cons (λ x. x) n ns

pieces-longer : (bs more ls : List ℕ) → sum ls ≤ length bs → pieces (bs ++ more) ls ≡ pieces bs ls
pieces-longer bs more [] h = refl
pieces-longer bs more (n ∷ ns) h =
    ap (λ (x : List ℕ). x ∷ pieces (drop n (bs ++ more)) ns) (take-append-le n bs more (omega (arith, h, sum-first n ns)))
    ∙ ap (λ (x : List ℕ). take n bs ∷ pieces x ns) (drop-append-le n bs more (omega (arith, h, sum-first n ns)))
    ∙ ap (λ (x : List (List ℕ)). take n bs ∷ x) (pieces-longer (drop n bs) more ns (omega (arith, h, sum-first n ns, length-drop n bs)))

pieces-end : (bs ls : List ℕ) (n : ℕ) → pieces bs (ls ++ n ∷ []) ≡ pieces bs ls ++ take n (drop (sum ls) bs) ∷ []
pieces-end bs [] n = refl
pieces-end bs (m ∷ ms) n = ap (λ (x : List (List ℕ)). take m bs ∷ x) (pieces-end (drop m bs) ms n ∙ ap (λ (x : List ℕ). pieces (drop m bs) ms ++ take n x ∷ []) (drop-drop (sum ms) m bs ∙ ap (λ (k : ℕ). drop k bs) (sym (sum-first m ms))))

rests-within : (begun : Bool) (start : ℕ) (bytes : List ℕ) → Rests begun start bytes → start ≤ length bytes
rests-within true start bytes r = r
rests-within false start bytes r = omega (arith, r)

opened-at : (begun : Bool) (start : ℕ) (bytes : List ℕ) → Rests begun start bytes → drop start bytes ≡ opened (begun_at begun (drop start bytes))
opened-at true start bytes r = refl
opened-at false start bytes r = drop_of_length-le bytes (omega (arith, r))

made-like : (done done' : List (List ℕ)) (b b' : List ℕ) → done ≡ done' → b ≡ b' → (let m : Made = record { done = done; begun = Some b } in m) ≡ record { done = done'; begun = Some b' }
made-like done done' b b' e f = ap (λ (x : List (List ℕ)). let m : Made = record { done = x; begun = Some b } in m) e ∙ ap (λ (x : List ℕ). let m : Made = record { done = done'; begun = Some x } in m) f

pub made-bytes : (bytes lengths : List ℕ) (start : ℕ) (begun : Bool) (more : List ℕ) → IsBuffer bytes lengths start begun → made (bytes ++ more) lengths start true ≡ with_bytes (made bytes lengths start begun) more
made-bytes bytes lengths start begun more is =
    let w = rests-within begun start bytes is.1 in
    made-like (pieces (bytes ++ more) lengths) (pieces bytes lengths) (drop start (bytes ++ more)) (opened (begun_at begun (drop start bytes)) ++ more)
    (pieces-longer bytes more lengths (omega (arith, is.0, w)))
    (drop-append-le start bytes more w ∙ ap (λ (x : List ℕ). x ++ more) (opened-at begun start bytes is.1))

pub made-end : (bytes lengths : List ℕ) (start : ℕ) → IsBuffer bytes lengths start true → made bytes (lengths ++ (length bytes - start) ∷ []) (length bytes) false ≡ ended (made bytes lengths start true)
made-end bytes lengths start is =
    ap (λ (x : List (List ℕ)). whole x)
    (pieces-end bytes lengths (length bytes - start) ∙ ap (λ (x : List ℕ). pieces bytes lengths ++ x ∷ []) (ap (λ (k : ℕ). take (length bytes - start) (drop k bytes)) is.0 ∙ ap (λ (k : ℕ). take k (drop start bytes)) (sym (length-drop start bytes)) ∙ take-length (drop start bytes)))

pub length-pieces : (bs ls : List ℕ) → length (pieces bs ls) ≡ length ls
length-pieces bs [] = refl
length-pieces bs (n ∷ ns) = ap suc (length-pieces (drop n bs) ns)

pieces-take : (n : ℕ) (bs ls : List ℕ) → pieces bs (take n ls) ≡ take n (pieces bs ls)
pieces-take zero bs ls = refl
pieces-take (suc n) bs [] = refl
pieces-take (suc n) bs (l ∷ ls) = ap (λ (x : List (List ℕ)). take l bs ∷ x) (pieces-take n (drop l bs) ls)

take-all : (n : ℕ) (xs : List (List ℕ)) → length xs ≤ n → take n xs ≡ xs
take-all zero [] h = refl
take-all zero (x ∷ xs) h = absurd (omega (arith, h))
take-all (suc n) [] h = refl
take-all (suc n) (x ∷ xs) h = ap (λ (ys : List (List ℕ)). x ∷ ys) (take-all n xs (omega (arith, h)))

pub all-pieces : (n : ℕ) (bs ls : List ℕ) (fields : List (List ℕ)) → pieces bs ls ≡ fields → length ls ≤ n → fields ≡ take n fields
all-pieces n bs ls fields is few = sym (take-all n fields (omega (arith, few, ap length is, length-pieces bs ls)))

pub first-pieces : (n : ℕ) (bs ls : List ℕ) (fields : List (List ℕ)) → pieces bs ls ≡ fields → pieces bs (take n ls) ≡ take n fields
first-pieces n bs ls fields is = pieces-take n bs ls ∙ ap (take n) is
