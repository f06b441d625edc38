-- Texts made of parts.
use Rattle.std.proofs.Common.{◌≡◌, ℕ, zero, suc, ◌+◌, ◌<◌, List, [], ◌∷◌, ◌++◌, length, drop, map, get_or, arith, refl, sym, ap, ◌∙◌, append_assoc, append-nil, codes}
use Rattle.std.specs.Fmt.{decimal}
use Rattle.fw_engines.specs.CopyStatus.{counts_line}
use Rattle.std.specs.Prelude.{Result, Ok, Err, IfOk}
use Rattle.std.specs.List.{concat, flat_map}
use Rattle.std.proofs.lemmas.List.Folds.{concat-append}

-- some parts, and then others
pub parts_more : (a b c : List ℕ) (xs ys : List (List ℕ)) → b ≡ a ++ concat xs → c ≡ b ++ concat ys → c ≡ a ++ concat (xs ++ ys)
parts_more a b c xs ys p q = q ∙ ap (λ t. t ++ concat ys) p ∙ append_assoc a (concat xs) (concat ys) ∙ ap (λ t. a ++ t) (sym (concat-append xs ys))

pub one_part : (b c y : List ℕ) → c ≡ b ++ y → c ≡ b ++ concat (y ∷ [])
one_part b c y q = q ∙ ap (λ t. b ++ t) (sym (append-nil y))

-- two texts, and three
pub two_parts : (a b c x y : List ℕ) → b ≡ a ++ x → c ≡ b ++ y → c ≡ a ++ concat (x ∷ y ∷ [])
two_parts a b c x y p q = parts_more a b c (x ∷ []) (y ∷ []) (one_part a b x p) (one_part b c y q)

pub three_parts : (a b c d x y z : List ℕ) → b ≡ a ++ x → c ≡ b ++ y → d ≡ c ++ z → d ≡ a ++ concat (x ∷ y ∷ z ∷ [])
three_parts a b c d x y z p q r = parts_more a c d (x ∷ y ∷ []) (z ∷ []) (two_parts a b c x y p q) (one_part c d z r)

pub four_parts : (a b c d e x y z w : List ℕ) → b ≡ a ++ x → c ≡ b ++ y → d ≡ c ++ z → e ≡ d ++ w → e ≡ a ++ concat (x ∷ y ∷ z ∷ w ∷ [])
four_parts a b c d e x y z w p q r s = parts_more a d e (x ∷ y ∷ z ∷ []) (w ∷ []) (three_parts a b c d x y z p q r) (one_part d e w s)

-- what an Ok says of one text it says of another
pub then_ok : {T E : Type 0} (r : Result T E) (P Q : Type 0) → (P → Q) → IfOk r (λ _. P) → IfOk r (λ _. Q)
then_ok (Ok x) P Q f p = f p
then_ok (Err e) P Q f p = p

-- ---- loops that append a text, or some things, for each element

pub item_cut : {X : Type 0} (xs : List X) (i : ℕ) (x : X) → i < length xs → x ≡ get_or xs i x → drop i xs ≡ x ∷ drop (i + 1) xs
item_cut [] i x h is = absurd (omega (arith, h))
item_cut (y ∷ xs) zero x h is = ap (λ z. z ∷ xs) (sym is)
item_cut (y ∷ xs) (suc i) x h is =
    item_cut xs i x (omega (arith, h)) is ∙ ap (λ (n : ℕ). x ∷ drop n (y ∷ xs)) (let k : suc (i + 1) ≡ suc i + 1 = omega arith in k)

pub place_cut : {X : Type 0} (xs : List X) (i : ℕ) (d : X) → i < length xs → drop i xs ≡ get_or xs i d ∷ drop (i + 1) xs
place_cut [] i d h = absurd (omega (arith, h))
place_cut (y ∷ xs) zero d h = refl
place_cut (y ∷ xs) (suc i) d h =
    place_cut xs i d (omega (arith, h)) ∙ ap (λ (n : ℕ). get_or xs i d ∷ drop n (y ∷ xs)) (let k : suc (i + 1) ≡ suc i + 1 = omega arith in k)

pub one_more_part : {X : Type 0} (f : X → List ℕ) (xs : List X) (i : ℕ) (x : X) (a b total : List ℕ) → drop i xs ≡ x ∷ drop (i + 1) xs → b ≡ a ++ f x →
    a ++ concat (map f (drop i xs)) ≡ total → b ++ concat (map f (drop (i + 1) xs)) ≡ total
one_more_part f xs i x a b total cut p so_far =
    ap (λ t. t ++ concat (map f (drop (i + 1) xs))) p ∙ append_assoc a (f x) (concat (map f (drop (i + 1) xs)))
    ∙ ap (λ ys. a ++ concat (map f ys)) (sym cut) ∙ so_far

pub some_more : {X Y Z : Type 0} (g : X → Y) (f : Y → List Z) (xs : List X) (i : ℕ) (x : X) (a b total : List Z) → drop i xs ≡ x ∷ drop (i + 1) xs → b ≡ a ++ f (g x) →
    a ++ flat_map f (map g (drop i xs)) ≡ total → b ++ flat_map f (map g (drop (i + 1) xs)) ≡ total
some_more g f xs i x a b total cut p so_far =
    ap (λ t. t ++ flat_map f (map g (drop (i + 1) xs))) p ∙ append_assoc a (f (g x)) (flat_map f (map g (drop (i + 1) xs)))
    ∙ ap (λ ys. a ++ flat_map f (map g ys)) (sym cut) ∙ so_far

-- ---- the line of the variables, by the digits of its numbers

pub counts_are : (old new a b c : List ℕ) (variables taken room : ℕ) → a ≡ decimal variables → b ≡ decimal taken → c ≡ decimal room →
    new ≡ old ++ concat (codes "variables    " ∷ a ∷ codes ", " ∷ b ∷ codes " of " ∷ c ∷ codes " bytes used\n" ∷ []) → new ≡ old ++ counts_line variables taken room
counts_are old new a b c variables taken room n u r p =
    p ∙ (λ i. old ++ concat (codes "variables    " ∷ n i ∷ codes ", " ∷ u i ∷ codes " of " ∷ r i ∷ codes " bytes used\n" ∷ []))
