-- Sets of names, by whether a name is one of them.
use Rattle.std.specs.Prelude.{◌≡◌, ℕ, ◌||◌, ◌&&◌, Bool, true, false, not, List, [], ◌∷◌, Vec, fold}
use Rattle.std.specs.List.{list_all, list_any}
use Rattle.std.specs.Ordering.{eq_by_cmp, is_lt}
use Rattle.std.specs.declared.alloc.Global.{Global}
use Rattle.envimg_core.specs.Environment.{Environment, bytes_cmp}
use Rattle.fw_check.specs.Following.{is_among, is_set, names_of, names_with}
use Rattle.fw_check.specs.declared.name_set.NameSet.{NameSet}

abbrev pub no_names : List ℕ → Bool
no_names name = false

abbrev pub also : (List ℕ → Bool) → List ℕ → List ℕ → Bool
also set new name = set name || eq_by_cmp bytes_cmp name new

abbrev pub with_all : (List ℕ → Bool) → List (List ℕ) → List ℕ → Bool
with_all set names = fold also set names

abbrev pub is_key : List (Vec ℕ Global) → List ℕ → Bool
is_key keys name = list_any (λ k. eq_by_cmp bytes_cmp name k.items) keys

abbrev pub set_of : NameSet → List ℕ → Bool
set_of s = is_key s.names.keys

-- the names of a set are these
abbrev pub AreSame : (List ℕ → Bool) → List (List ℕ) → Type 0
AreSame set names = (name : List ℕ) → set name ≡ is_among names name

-- a name comes before a text in the order of their bytes
abbrev pub is_before : (text name : List ℕ) → Bool
is_before text name = is_lt (bytes_cmp name text)

-- each of these names comes before those after it
abbrev pub is_before_all : List ℕ → List (List ℕ) → Bool
is_before_all name [] = true
is_before_all name (n ∷ ns) = is_before n name && is_before_all name ns

abbrev pub is_ascending : List (List ℕ) → Bool
is_ascending [] = true
is_ascending (n ∷ ns) = is_before_all n ns && is_ascending ns

-- it isn't followed any more: it isn't defined, or is followed already
abbrev pub is_settled : Environment → List (List ℕ) → List ℕ → Bool
is_settled env names name = not (is_set env name && not (is_among names name))

-- the names of an environment in order, and beginnings of which every name is settled
pub record AreBegun (env : Environment) (sorted names : List (List ℕ)) (begun : List ℕ → Bool) : Type 0 where
  pub all : sorted ≡ names_of env
  pub settled : (beginning : List ℕ) → begun beginning ≡ true → list_all (is_settled env names) (names_with beginning sorted) ≡ true
