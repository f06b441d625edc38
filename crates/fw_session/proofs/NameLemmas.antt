-- The last mark of a name, in one pass over the table.
use Rattle.std.proofs.Common.{◌≡◌, ℕ, suc, ◌<◌, ◌++◌, List, [], ◌∷◌, length, Bool, true, false, Option, Some, None, refl, sym, ap, ◌∙◌, arith}
use Rattle.std.specs.Prelude.{map}
use Rattle.std.proofs.lemmas.List.{length-take}
use Rattle.fw_session.specs.Turns.{NamedSession, has_name, last_named, later, standing}

abbrev or_here : ℕ → Option ℕ → Bool → Option ℕ
or_here k found true = Some k
or_here k found false = found

named_more : (name : List ℕ) (xs : List (Option (List ℕ))) (n : Option (List ℕ)) → last_named name (xs ++ n ∷ []) ≡ or_here (length xs) (last_named name xs) (has_name name n)
named_more name [] n = elim (has_name name n) as (λ v. later None v ≡ or_here 0 None v) [ true ↦ refl | false ↦ refl ]
named_more name (x ∷ xs) n =
    ap (λ f. later f (has_name name x)) (named_more name xs n)
    ∙ elim (has_name name n) as (λ v. later (or_here (length xs) (last_named name xs) v) (has_name name x) ≡ or_here (suc (length xs)) (later (last_named name xs) (has_name name x)) v) [ true ↦ refl | false ↦ refl ]

map_append : {A B : Type 0} (f : A → B) (xs ys : List A) → map f (xs ++ ys) ≡ map f xs ++ map f ys
map_append f [] ys = refl
map_append f (x ∷ xs) ys = ap (λ t. f x ∷ t) (map_append f xs ys)

long_map : {A B : Type 0} (f : A → B) (xs : List A) → length (map f xs) ≡ length xs
long_map f [] = refl
long_map f (x ∷ xs) = ap suc (long_map f xs)

pub found_here : {A : Type 0} (f : A → Option (List ℕ)) (name : List ℕ) (xs more : List A) (x : A) (k : ℕ) → more ≡ xs ++ x ∷ [] → length xs ≡ k → has_name name (f x) ≡ true → Some k ≡ last_named name (map f more)
found_here f name xs more x k e l h =
    sym (ap (λ t. last_named name (map f t)) e ∙ ap (last_named name) (map_append f xs (x ∷ [])) ∙ named_more name (map f xs) (f x) ∙ ap (or_here (length (map f xs)) (last_named name (map f xs))) h ∙ ap Some (long_map f xs ∙ l))

pub found_before : {A : Type 0} (f : A → Option (List ℕ)) (name : List ℕ) (xs more : List A) (x : A) (found : Option ℕ) → more ≡ xs ++ x ∷ [] → found ≡ last_named name (map f xs) → has_name name (f x) ≡ false → found ≡ last_named name (map f more)
found_before f name xs more x found e was h =
    was ∙ sym (ap (λ t. last_named name (map f t)) e ∙ ap (last_named name) (map_append f xs (x ∷ [])) ∙ named_more name (map f xs) (f x) ∙ ap (or_here (length (map f xs)) (last_named name (map f xs))) h)

named_within : (name : List ℕ) (xs : List (Option (List ℕ))) (k : ℕ) → Some k ≡ last_named name xs → k < length xs
named_within name [] k e = absurd (cc)
named_within name (x ∷ xs) k e = later_within (last_named name xs) (has_name name x) (length xs) k (λ j is. named_within name xs j is) e
  where
    later_within : (found : Option ℕ) (here : Bool) (n k : ℕ) → ((j : ℕ) → Some j ≡ found → j < n) → Some k ≡ later found here → k < suc n
    later_within (Some j) here n k below e = let lt = below j refl in let is : k ≡ suc j = cc in omega (arith, lt, is)
    later_within None true n k below e = let is : k ≡ 0 = cc in omega (arith, is)
    later_within None false n k below e = absurd (cc)

-- a mark that is found exists
pub found_within : (t : NamedSession) (name : List ℕ) (k : ℕ) (marks : List (Option (List ℕ))) → marks ≡ standing t → Some k ≡ last_named name marks → k < length t.held.marks
found_within t name k marks s e = let lt = named_within name (standing t) k (e ∙ ap (last_named name) s) in omega (arith, lt, length-take (length t.held.marks) t.names)
