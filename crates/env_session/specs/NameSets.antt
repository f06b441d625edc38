-- Sets of names.
use Rattle.std.specs.Prelude.{ℕ, ◌&&◌, ◌||◌, Bool, not, List, is_none, is_some, Option, if◌then◌else◌}
use Rattle.std.specs.List.{list_all}
use Rattle.std.specs.FinMap as env
use Rattle.std.specs.FinMap.{FinMap}
use Rattle.envimg_core.specs.Environment.{Environment, bytes_cmp}
use Rattle.envvars_core.specs.Attributes.{flags_name}
use Rattle.envvars_core.specs.Refusals.{given}
use Rattle.envvars_core.specs.Olds.{same_value}

abbrev pub NameSet : Type 0
NameSet = FinMap bytes_cmp (Unit {0})

abbrev pub no_names : NameSet
no_names = env.empty

-- the names that are changed after an accepted write too: one more if the value changes
unfoldable pub changed_names_after : Environment → List ℕ → Option (List ℕ) → NameSet → NameSet
changed_names_after m n new names = if same_value (env.get m n) (given new) then names else env.insert names n tt

-- the values that the names had come back without memory: no absent name gets one, and `.flags` isn't among the names
unfoldable pub comes_back_in_place : Environment → Environment → NameSet → Bool
comes_back_in_place begun now names =
    not (env.contains_key names flags_name) && list_all (λ n. is_none (env.get begun n) || is_some (env.get now n)) (env.keys names)
