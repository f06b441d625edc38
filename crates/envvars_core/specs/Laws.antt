-- What the laws of this crate say.
use Rattle.std.specs.Prelude.{◌≡◌, ◌&&◌, ◌||◌, not, ℕ, Bool, false, List, [], ◌∷◌, Some, None, fold, unwrap_or, if◌then◌else◌}
use Rattle.std.specs.Ordering.{eq_by_cmp}
use Rattle.std.specs.FinMap as finite
use Rattle.std.specs.FinMap.{get}
use Rattle.envimg_core.specs.Environment.{Environment, bytes_cmp}
use Rattle.envimg_core.specs.Pieces.{Entry}
use Rattle.envvars_core.specs.Refusals.{given, after}
use Rattle.envvars_core.specs.Olds.{OldValues, same_value, kept_by, restored}

-- what is kept for a name decides, and else the name has what it has
abbrev pub RestoredIs : Type 0
RestoredIs =
    (env : Environment) (olds : OldValues) (n : List ℕ) → get (restored env olds) n ≡ unwrap_or (get olds n) (get env n)

-- if nothing is kept, nothing is brought back
abbrev pub NothingRestored : Type 0
NothingRestored = (env : Environment) → restored env finite.empty ≡ env

-- one more accepted write whose old value is kept
abbrev pub and_written : Environment × OldValues → Entry → Environment × OldValues
and_written s w = (after s.0 w.0 w.1, kept_by s.0 w.0 w.1 s.1)

-- what a list of accepted writes leaves, and what is kept of what was there
abbrev pub written_kept : Environment → List Entry → Environment × OldValues
written_kept env writes = fold and_written (env, finite.empty) writes

-- putting back what was kept gives what was there before the first of them
abbrev pub WritesRestored : Type 0
WritesRestored =
    (env : Environment) (writes : List Entry) → restored (written_kept env writes).0 (written_kept env writes).1 ≡ env

-- whether some write of the list changed the value of a name
abbrev pub is_changed : List ℕ → Environment → List Entry → Bool
is_changed n env [] = false
is_changed n env (w ∷ ws) =
    (eq_by_cmp bytes_cmp n w.0 && not (same_value (get env w.0) (given w.1))) || is_changed n (after env w.0 w.1) ws

-- one value is kept for each name that was changed, and it is the first: the one before all of them
abbrev pub FirstKept : Type 0
FirstKept =
    (env : Environment) (writes : List Entry) (n : List ℕ) →
    get (written_kept env writes).1 n ≡ (if is_changed n env writes then Some (get env n) else None)
