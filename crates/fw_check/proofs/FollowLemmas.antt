-- Names that are followed, and beginnings of which every name is.
use Rattle.std.proofs.Common.{◌≡◌, ℕ, Bool, true, false, not, ◌&&◌, ◌||◌, List, [], ◌∷◌, ◌++◌, refl, sym, ap, subst, ◌∙◌, append_assoc, append-nil, if◌then◌else◌}
use Rattle.std.specs.Prelude.{OnErr, OnOk, Result, Ok, Err}
use Rattle.std.specs.List.{list_all}
use Rattle.std.specs.Ordering.{eq_by_cmp, is_eq, is_lt, ordering_reverse}
use Rattle.std.specs.declared.cmp.Ordering.{Ordering}
use Rattle.std.specs.declared.cmp.Ordering.TheVariants.{Less, Equal, Greater}
use Rattle.std.proofs.lemmas.Bool.{false≢true}
use Rattle.std.proofs.lemmas.Cmp.{nat_list_cmp_total}
use Rattle.std.proofs.lemmas.List.Folds.{list_any-append}
use Rattle.envimg_core.proofs.Facts.{left_true, right_true, same_name}
use Rattle.envimg_core.specs.Environment.{Environment, bytes_cmp}
use Rattle.fw_check.specs.Following.{Followed, follow_front, follow_fronts, follow_names, is_among, is_set, named_by, names_of, names_with, with_name, with_names}
use Rattle.fw_check.specs.Literals.{Front}
use Rattle.fw_check.specs.NameSets.{AreBegun, also, is_settled, no_names}
use Rattle.fw_check.proofs.NameLemmas.{among-more}

-- ---- those that are followed stay first

one-or : (b : Bool) (names : List (List ℕ)) (name : List ℕ) → (rest : List (List ℕ)) × ((if b then names ++ name ∷ [] else names) ≡ names ++ rest)
one-or true names name = (name ∷ [], refl)
one-or false names name = ([], sym (append-nil names))

pub one-longer : (env : Environment) (names : List (List ℕ)) (name : List ℕ) → (rest : List (List ℕ)) × (with_name env names name ≡ names ++ rest)
one-longer env names name = one-or (is_set env name && not (is_among names name)) names name

pub longer : (env : Environment) (names more : List (List ℕ)) → (rest : List (List ℕ)) × (with_names env names more ≡ names ++ rest)
longer env names [] = ([], sym (append-nil names))
longer env names (x ∷ xs) =
    let one = one-longer env names x in
    let others = longer env (with_name env names x) xs in
    (one.0 ++ others.0, others.1 ∙ ap (λ (ns : List (List ℕ)). ns ++ others.0) one.1 ∙ append_assoc names one.0 others.0)

pub fronts-longer : (f : Followed) (fronts : List Front) → (rest : List (List ℕ)) × ((follow_fronts f fronts).names ≡ f.names ++ rest)
fronts-longer f [] = ([], sym (append-nil f.names))
fronts-longer f (x ∷ xs) =
    let one = longer f.env f.names (named_by f.env x) in
    let others = fronts-longer (follow_front f x) xs in
    (one.0 ++ others.0, others.1 ∙ ap (λ (ns : List (List ℕ)). ns ++ others.0) one.1 ∙ append_assoc f.names one.0 others.0)

pub fronts-env : (f : Followed) (fronts : List Front) → (follow_fronts f fronts).env ≡ f.env
fronts-env f [] = refl
fronts-env f (x ∷ xs) = fronts-env (follow_front f x) xs

-- ---- names that are settled

more-settles : (s a m : Bool) → not (s && not a) ≡ true → not (s && not (a || m)) ≡ true
more-settles false a m h = refl
more-settles true true m h = refl
more-settles true false m h = absurd (false≢true h)

there-settles : (s a : Bool) → a ≡ true → not (s && not a) ≡ true
there-settles false a e = refl
there-settles true a e = ap (λ (b : Bool). not (not b)) e

or-true : (a b : Bool) → b ≡ true → (a || b) ≡ true
or-true true b e = refl
or-true false b e = e

even : (o : Ordering) → o ≡ ordering_reverse o → is_eq o ≡ true
even Less e = absurd (false≢true (sym (ap is_lt e)))
even Equal e = refl
even Greater e = absurd (false≢true (ap is_lt e))

same-among : (names : List (List ℕ)) (name : List ℕ) → is_among (names ++ name ∷ []) name ≡ true
same-among names name =
    among-more names name name ∙ or-true (is_among names name) (eq_by_cmp bytes_cmp name name) (even (bytes_cmp name name) (nat_list_cmp_total.antisymm name name))

module _ (env : Environment) where
  settled-more : (names more : List (List ℕ)) (name : List ℕ) → is_settled env names name ≡ true → is_settled env (names ++ more) name ≡ true
  settled-more names more name h =
      ap (λ (b : Bool). not (is_set env name && not b)) (list_any-append (eq_by_cmp bytes_cmp name) names more)
      ∙ more-settles (is_set env name) (is_among names name) (is_among more name) h

  pub all-more : (names more xs : List (List ℕ)) → list_all (is_settled env names) xs ≡ true → list_all (is_settled env (names ++ more)) xs ≡ true
  all-more names more [] h = refl
  all-more names more (x ∷ xs) h =
      ap (λ (b : Bool). b && list_all (is_settled env (names ++ more)) xs) (settled-more names more x (left_true _ _ h))
      ∙ all-more names more xs (right_true (is_settled env names x) _ h)

  one-settled : (names : List (List ℕ)) (name : List ℕ) (b : Bool) → (is_set env name && not (is_among names name)) ≡ b → is_settled env (if b then names ++ name ∷ [] else names) name ≡ true
  one-settled names name true e = there-settles (is_set env name) (is_among (names ++ name ∷ []) name) (same-among names name)
  one-settled names name false e = ap not e

  -- once names were followed, they are settled
  pub all-settled : (names xs : List (List ℕ)) → list_all (is_settled env (with_names env names xs)) xs ≡ true
  all-settled names [] = refl
  all-settled names (x ∷ xs) =
      let one = with_name env names x in
      let rest = longer env one xs in
      let first = settled-more one rest.0 x (one-settled names x (is_set env x && not (is_among names x)) refl) in
      ap (λ (b : Bool). b && list_all (is_settled env (with_names env one xs)) xs)
      (ap (λ (ns : List (List ℕ)). is_settled env ns x) rest.1 ∙ first) ∙ all-settled one xs

  none-added : (b : Bool) (names : List (List ℕ)) (name : List ℕ) → not b ≡ true → (if b then names ++ name ∷ [] else names) ≡ names
  none-added true names name h = absurd (false≢true h)
  none-added false names name h = refl

  -- settled names add nothing
  pub nothing-new : (names xs : List (List ℕ)) → list_all (is_settled env names) xs ≡ true → with_names env names xs ≡ names
  nothing-new names [] h = refl
  nothing-new names (x ∷ xs) h =
      ap (λ (ns : List (List ℕ)). with_names env ns xs) (none-added (is_set env x && not (is_among names x)) names x (left_true _ _ h))
      ∙ nothing-new names xs (right_true (is_settled env names x) _ h)

-- ---- beginnings

pub begun-none : (env : Environment) (sorted names : List (List ℕ)) (begun : List ℕ → Bool) → sorted ≡ names_of env → begun ≡ no_names → AreBegun env sorted names begun
begun-none env sorted names begun all none = record { all = all; settled = λ beginning e. absurd (false≢true (sym (λ i. none i beginning) ∙ e)) }

pub begun-more : (env : Environment) (sorted names new more : List (List ℕ)) (begun : List ℕ → Bool) → AreBegun env sorted names begun → new ≡ names ++ more → AreBegun env sorted new begun
begun-more env sorted names new more begun h e = record {
  all = h.all;
  settled = λ beginning b. ap (λ (ns : List (List ℕ)). list_all (is_settled env ns) (names_with beginning sorted)) e ∙ all-more env names more (names_with beginning sorted) (h.settled beginning b);
}

tied : (o : Ordering) → is_eq o ≡ true → o ≡ Equal
tied Less e = absurd (false≢true e)
tied Equal e = refl
tied Greater e = absurd (false≢true e)

either : (P : Type 0) (a b : Bool) → (a ≡ true → P) → (b ≡ true → P) → (a || b) ≡ true → P
either P true b f g e = f refl
either P false b f g e = g e

pub begun-also : (env : Environment) (sorted names : List (List ℕ)) (begun with : List ℕ → Bool) (front : List ℕ) → AreBegun env sorted names begun → with ≡ also begun front →
    list_all (is_settled env names) (names_with front sorted) ≡ true → AreBegun env sorted names with
begun-also env sorted names begun with front h added all = record {
  all = h.all;
  settled = λ beginning b.
      either (list_all (is_settled env names) (names_with beginning sorted) ≡ true) (begun beginning) (eq_by_cmp bytes_cmp beginning front) (h.settled beginning)
      (λ e. ap (λ (n : List ℕ). list_all (is_settled env names) (names_with n sorted)) (same_name beginning front (tied (bytes_cmp beginning front) e)) ∙ all)
      (sym (λ i. added i beginning) ∙ b);
}

-- a name was followed, or memory ran out
pub begun-follow : {E : Type 0} (env : Environment) (sorted names new : List (List ℕ)) (begun : List ℕ → Bool) (name : List ℕ) (r : Result (Unit {0}) E) → AreBegun env sorted names begun →
    OnOk r (new ≡ with_name env names name) → OnErr r (new ≡ names) → AreBegun env sorted new begun
begun-follow env sorted names new begun name (Ok u) h added kept =
    let one = one-longer env names name in
    begun-more env sorted names new one.0 begun h (added ∙ one.1)
begun-follow env sorted names new begun name (Err e) h added kept = begun-more env sorted names new [] begun h (kept ∙ sym (append-nil names))

-- a beginning that was followed before adds nothing
pub begun-nothing : (env : Environment) (sorted names : List (List ℕ)) (begun : List ℕ → Bool) (front : List ℕ) → AreBegun env sorted names begun → begun front ≡ true →
    with_names env names (names_with front (names_of env)) ≡ names
begun-nothing env sorted names begun front h e =
    ap (λ (ns : List (List ℕ)). with_names env names (names_with front ns)) (sym h.all) ∙ nothing-new env names (names_with front sorted) (h.settled front e)

-- one that was followed now is settled
pub begun-now : (env : Environment) (sorted before names : List (List ℕ)) (begun with : List ℕ → Bool) (front : List ℕ) → AreBegun env sorted names begun → with ≡ also begun front →
    names ≡ with_names env before (names_with front (names_of env)) → AreBegun env sorted names with
begun-now env sorted before names begun with front h added is =
    begun-also env sorted names begun with front h added
    (ap (λ (ns : List (List ℕ)). list_all (is_settled env ns) (names_with front sorted)) is
    ∙ ap (λ (ns : List (List ℕ)). list_all (is_settled env (with_names env before (names_with front (names_of env)))) (names_with front ns)) h.all
    ∙ all-settled env before (names_with front (names_of env)))

-- the same, if memory may have run out when the beginning was added
pub begun-after : {E : Type 0} (f : Followed) (env : Environment) (sorted names : List (List ℕ)) (begun with : List ℕ → Bool) (front : List ℕ) (r : Result (Unit {0}) E) → AreBegun env sorted names begun →
    (let now : Followed = record { env = env; names = names } in now) ≡ follow_names f (names_with front (names_of f.env)) → OnOk r (with ≡ also begun front) → OnErr r (with ≡ begun) → AreBegun env sorted names with
begun-after f env sorted names begun with front (Ok u) h same added kept =
    let here : env ≡ f.env = ap (λ (g : Followed). g.env) same in
    begun-now env sorted f.names names begun with front h added
    (ap (λ (g : Followed). g.names) same ∙ ap (λ (e : Environment). with_names e f.names (names_with front (names_of e))) (sym here))
begun-after f env sorted names begun with front (Err e) h same added kept = subst (AreBegun env sorted names) (sym kept) h

pub begun-adds-nothing : (f : Followed) (env : Environment) (sorted names : List (List ℕ)) (begun : List ℕ → Bool) (front : List ℕ) → (let now : Followed = record { env = env; names = names } in now) ≡ f → AreBegun env sorted names begun →
    begun front ≡ true → f ≡ follow_names f (names_with front (names_of f.env))
begun-adds-nothing f env sorted names begun front same h e =
    subst (λ (g : Followed). g ≡ follow_names g (names_with front (names_of g.env))) same
    (ap (λ (ns : List (List ℕ)). let now : Followed = record { env = env; names = ns } in now) (sym (begun-nothing env sorted names begun front h e)))
