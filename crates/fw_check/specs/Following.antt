-- Which scripts are read (docs/check.md, "Which scripts").
use Rattle.std.specs.Prelude.{ℕ, ◌==◌, ◌&&◌, Bool, true, false, not, List, [], ◌∷◌, ◌++◌, length, map, fold, filter, nat_eq, codes, is_some, unwrap_or, Option, if◌then◌else◌, refl}
use Rattle.std.specs.List.{list_any, starts_with}
use Rattle.std.specs.Ordering.{eq_by_cmp}
use Rattle.std.specs.Coded.{Coded, code_by, coded×, coded_ℕ, coded_list}
use Rattle.std.specs.FinMap as finite
use Rattle.std.specs.FinMap.{entries, get}
use Rattle.memchr.specs.Find.{is_byte}
use Rattle.envimg_core.specs.Environment.{Environment, bytes_cmp}
use Rattle.fw_check.specs.Literals.{Front}
use Rattle.hush_commands.specs.Hardware.{Hardware}
use Rattle.fw_check.specs.Menus.{is_entry_name, menu_front}
use Rattle.fw_check.specs.ScriptValues.{looks_like_script}

abbrev pub is_among : List (List ℕ) → List ℕ → Bool
is_among names name = list_any (eq_by_cmp bytes_cmp name) names

abbrev pub is_set : Environment → List ℕ → Bool
is_set env name = is_some (get env name)

-- a name is added after those that are there already, if it is defined and not among them
abbrev pub with_name : Environment → List (List ℕ) → List ℕ → List (List ℕ)
with_name env names name = if is_set env name && not (is_among names name) then names ++ name ∷ [] else names

abbrev pub with_names : Environment → List (List ℕ) → List (List ℕ) → List (List ℕ)
with_names env names more = fold (with_name env) names more

-- the names of an environment, in ascending order of their bytes
abbrev pub names_of : Environment → List (List ℕ)
names_of env = map (λ p. p.0) (entries env)

-- those of these names that begin so
abbrev pub names_with : (beginning : List ℕ) → List (List ℕ) → List (List ℕ)
names_with beginning names = filter (λ name. starts_with nat_eq name beginning) names

-- what an argument of `run` may name: itself if it has no substitution, else each name that begins as it does; one that
-- begins with a substitution isn't followed
abbrev pub named_by : Environment → Front → List (List ℕ)
named_by env front =
    if front.whole then front.bytes ∷ []
    else if length front.bytes == 0 then []
    else names_with front.bytes (names_of env)

-- an environment, and the names that are followed in it
pub record Followed : Type 0 where
  pub env : Environment
  pub names : List (List ℕ)

abbrev pub followed_code : Coded Followed
followed_code =
    code_by (Environment × List (List ℕ)) (coded× (finite.code (coded_list coded_ℕ) (coded_list coded_ℕ)) (coded_list (coded_list coded_ℕ)))
    (λ v. (v.env, v.names)) (λ p. record { env = p.0; names = p.1 }) (λ _. refl)

abbrev pub follow_names : Followed → List (List ℕ) → Followed
follow_names f more = record { env = f.env; names = with_names f.env f.names more }

abbrev pub follow_front : Followed → Front → Followed
follow_front f front = follow_names f (named_by f.env front)

abbrev pub follow_fronts : Followed → List Front → Followed
follow_fronts f fronts = fold follow_front f fronts

-- the names that a check begins with first if it is given none
abbrev pub usual_names : List (List ℕ)
usual_names = codes "bootcmd" ∷ codes "altbootcmd" ∷ codes "preboot" ∷ []

-- a boot menu's entry that has a script
abbrev pub is_entry : Environment → List ℕ → Bool
is_entry env name = is_entry_name name && list_any (is_byte 61) (unwrap_or (get env name) [])

abbrev pub with_entry : Environment → List (List ℕ) → List ℕ → List (List ℕ)
with_entry env names name = if is_entry env name then with_name env names name else names

-- the entries among these names are followed
abbrev pub follow_menu : Followed → List (List ℕ) → Followed
follow_menu f more = record { env = f.env; names = fold (with_entry f.env) f.names more }

-- all of the environment, in order of names
abbrev pub follow_entries : Followed → Followed
follow_entries f = follow_menu f (names_with menu_front (names_of f.env))

-- the usual names and the entries of a boot menu
abbrev pub follow_usual : Followed → Followed
follow_usual f = follow_entries (follow_names f usual_names)

abbrev pub with_script_name : Option Hardware → Environment → List (List ℕ) → List ℕ → List (List ℕ)
with_script_name h env names name = if looks_like_script h env name then with_name env names name else names

-- the variables among these names whose values look like scripts are followed
abbrev pub follow_scripts_of : Option Hardware → Followed → List (List ℕ) → Followed
follow_scripts_of h f more = record { env = f.env; names = fold (with_script_name h f.env) f.names more }

-- all of the environment, in order of names
abbrev pub follow_scripts : Option Hardware → Followed → Followed
follow_scripts h f = follow_scripts_of h f (names_of f.env)

-- what a check begins with if not all is looked at: the names that it is given; without any the usual ones and the entries of a boot menu,
-- unless the scripts of files are checked
abbrev pub begin_from : Followed → (alone : Bool) → List (List ℕ) → Followed
begin_from f false [] = f
begin_from f true [] = follow_usual f
begin_from f alone (name ∷ names) = follow_names f (name ∷ names)

-- and if all is
abbrev pub begin_all : Option Hardware → Followed → (all alone : Bool) → List (List ℕ) → Followed
begin_all h f false alone names = begin_from f alone names
begin_all h f true alone names = follow_scripts h (follow_usual (follow_names f names))

abbrev pub begin_with : Option Hardware → Environment → (all alone : Bool) → List (List ℕ) → Followed
begin_with h env all alone names = begin_all h (record { env = env; names = [] }) all alone names
