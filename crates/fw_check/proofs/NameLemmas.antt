-- Names that are met, as a list and as a set.
use Rattle.std.proofs.Common.{◌≡◌, ℕ, Bool, true, false, ◌||◌, List, [], ◌∷◌, ◌++◌, map, Vec, refl, sym, ap, ◌∙◌}
use Rattle.std.specs.List.{list_any}
use Rattle.std.specs.Ordering.{eq_by_cmp, is_eq, match_ordering, ordering_reverse}
use Rattle.std.specs.declared.cmp.Ordering.{Ordering}
use Rattle.std.specs.declared.cmp.Ordering.TheVariants.{Less, Equal, Greater}
use Rattle.std.specs.declared.alloc.Global.{Global}
use Rattle.std.specs.BTreeSet.{insert_key}
use Rattle.std.specs.Cmp.Lexicographic.{nat_list_cmp_total}
use Rattle.std.proofs.lemmas.Grind.{fold-append}
use Rattle.std.proofs.lemmas.List.{map-append}
use Rattle.std.proofs.lemmas.List.Folds.{list_any-append}
use Rattle.envimg_core.specs.Environment.{bytes_cmp}
use Rattle.fw_check.specs.Following.{is_among}
use Rattle.fw_check.specs.NameSets.{AreSame, also, is_key, no_names, with_all}

abbrev key_order : Vec ℕ Global → Vec ℕ Global → Ordering
key_order x y = bytes_cmp x.items y.items

abbrev is_called : List ℕ → Vec ℕ Global → Bool
is_called name k = eq_by_cmp bytes_cmp name k.items

or-false : (a : Bool) → (a || false) ≡ a
or-false true = refl
or-false false = refl

or-comm : (a b : Bool) → (a || b) ≡ (b || a)
or-comm true true = refl
or-comm true false = refl
or-comm false true = refl
or-comm false false = refl

or-assoc : (a b c : Bool) → (a || (b || c)) ≡ ((a || b) || c)
or-assoc true b c = refl
or-assoc false b c = refl

or-again : (a b : Bool) → (a || b) ≡ ((a || b) || a)
or-again true b = refl
or-again false b = sym (or-false b)

turned : (o : Ordering) → is_eq (ordering_reverse o) ≡ is_eq o
turned Less = refl
turned Equal = refl
turned Greater = refl

-- names that the order does not tell apart are equal to the same names
called-alike : (name x y : List ℕ) → bytes_cmp x y ≡ Equal → eq_by_cmp bytes_cmp name y ≡ eq_by_cmp bytes_cmp name x
called-alike name x y e =
    ap is_eq (nat_list_cmp_total.antisymm name y) ∙ turned (bytes_cmp y name)
    ∙ ap is_eq (sym (nat_list_cmp_total.congr x y name e))
    ∙ sym (turned (bytes_cmp x name)) ∙ sym (ap is_eq (nat_list_cmp_total.antisymm name x))

insert-here : (name : List ℕ) (x k : Vec ℕ Global) (keys more : List (Vec ℕ Global)) → list_any (is_called name) more ≡ (list_any (is_called name) keys || is_called name k) → (o : Ordering) → key_order k x ≡ o →
    list_any (is_called name) (match_ordering o (k ∷ x ∷ keys) (x ∷ keys) (x ∷ more)) ≡ (list_any (is_called name) (x ∷ keys) || is_called name k)
insert-here name x k keys more rest Less e = or-comm (is_called name k) (list_any (is_called name) (x ∷ keys))
insert-here name x k keys more rest Equal e =
    or-again (is_called name x) (list_any (is_called name) keys)
    ∙ ap (λ (b : Bool). list_any (is_called name) (x ∷ keys) || b) (called-alike name k.items x.items e)
insert-here name x k keys more rest Greater e =
    ap (λ (b : Bool). is_called name x || b) rest ∙ or-assoc (is_called name x) (list_any (is_called name) keys) (is_called name k)

called-insert : (name : List ℕ) (keys : List (Vec ℕ Global)) (k : Vec ℕ Global) → list_any (is_called name) (insert_key key_order keys k) ≡ (list_any (is_called name) keys || is_called name k)
called-insert name [] k = or-false (is_called name k)
called-insert name (x ∷ keys) k = insert-here name x k keys (insert_key key_order keys k) (called-insert name keys k) (key_order k x) refl

pub among-more : (names : List (List ℕ)) (new name : List ℕ) → is_among (names ++ new ∷ []) name ≡ (is_among names name || eq_by_cmp bytes_cmp name new)
among-more names new name =
    list_any-append (eq_by_cmp bytes_cmp name) names (new ∷ [])
    ∙ ap (λ (b : Bool). is_among names name || b) (or-false (eq_by_cmp bytes_cmp name new))

-- one more key
pub key-more : (keys with : List (Vec ℕ Global)) (k : Vec ℕ Global) (name : List ℕ) → with ≡ insert_key key_order keys k → k.items ≡ name → is_key with ≡ also (is_key keys) name
key-more keys with k name inserted called =
    ap is_key inserted ∙ (λ i n. called-insert n keys k i) ∙ ap (also (is_key keys)) called

pub same-more : (names more : List (List ℕ)) (set with : List ℕ → Bool) (new : List ℕ) → AreSame set names → with ≡ also set new → more ≡ names ++ new ∷ [] → AreSame with more
same-more names more set with new same added last name =
    (λ i. added i name) ∙ ap (λ (b : Bool). b || eq_by_cmp bytes_cmp name new) (same name)
    ∙ sym (among-more names new name) ∙ ap (λ (ns : List (List ℕ)). is_among ns name) (sym last)

-- a name after the others, in the code's form
pub items-more : (old new : List (Vec ℕ Global)) (v : Vec ℕ Global) (name : List ℕ) → new ≡ old ++ v ∷ [] → v.items ≡ name →
    map (λ n. n.items) new ≡ map (λ n. n.items) old ++ name ∷ []
items-more old new v name put v_is =
    ap (map (λ n. n.items)) put ∙ map-append (λ (n : Vec ℕ Global). n.items) old (v ∷ [])
    ∙ ap (λ (bs : List ℕ). map (λ n. n.items) old ++ bs ∷ []) v_is

-- ---- many names

with-all : (set : List ℕ → Bool) (names : List (List ℕ)) (name : List ℕ) → with_all set names name ≡ (set name || is_among names name)
with-all set [] name = sym (or-false (set name))
with-all set (x ∷ names) name =
    with-all (also set x) names name ∙ sym (or-assoc (set name) (eq_by_cmp bytes_cmp name x) (is_among names name))

pub all-among : (names : List (List ℕ)) → with_all no_names names ≡ is_among names
all-among names = λ i name. with-all no_names names name i

pub with-append : (set : List ℕ → Bool) (xs ys : List (List ℕ)) → with_all (with_all set xs) ys ≡ with_all set (xs ++ ys)
with-append set xs ys = sym (fold-append also set xs ys)
