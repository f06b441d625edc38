-- What the laws of this crate say.
use Rattle.std.specs.Prelude.{◌≡◌, ℕ, ◌≤◌, List, Option, length, reverse, find, All, IsTrue}
use Rattle.std.specs.Option.{option_and_then}
use Rattle.std.specs.Ordering.{eq_by_cmp}
use Rattle.std.specs.FinMap.{entries, get}
use Rattle.envimg_core.specs.Environment.{Environment, IsVariable, bytes_cmp, used}
use Rattle.envimg_core.specs.Geometry.{Shape, IsSize, room_of, area_of}
use Rattle.envimg_core.specs.Image.{image_of}
use Rattle.envimg_core.specs.Pieces.{Entry, entries_of, vars_of, is_terminated}
use Rattle.envimg_core.specs.State.{state_of}
use Rattle.envimg_core.specs.declared.geometry.Layout.{Layout}
use Rattle.envimg_core.specs.declared.geometry.Layout.TheVariants.{Single, Redundant}
use Rattle.envimg_core.specs.declared.state.CopyState.TheVariants.{Good}

-- the last entry of that name
abbrev pub last_named : List ℕ → List Entry → Option Entry
last_named name es = find (λ e. eq_by_cmp bytes_cmp name e.0) (reverse es)

-- the last entry for a name decides: its value, or no value if it has none or no entry has that name
abbrev pub LastDecides : List Entry → List ℕ → Type 0
LastDecides es name = get (vars_of es) name ≡ option_and_then (λ e. e.1) (last_named name es)

-- each name and each value has its form
abbrev pub AreVariables : Environment → Type 0
AreVariables env = All IsVariable (entries env)

-- the flag that a copy written with this flag shows
abbrev pub shown_flag : Layout → ℕ → ℕ
shown_flag Single flag = 0
shown_flag Redundant flag = flag

-- the image of an environment is good, and its variables are that environment
abbrev pub ReadsBack : Shape → ℕ → Environment → Type 0
ReadsBack shape flag env =
    (state_of shape (image_of shape flag env) ≡ Good (shown_flag shape.layout flag))
    × (vars_of (entries_of (area_of shape (image_of shape flag env))) ≡ env)

-- every image that can be written
abbrev pub ImageReadsBack : Type 0
ImageReadsBack =
    (shape : Shape) (flag : ℕ) (env : Environment) →
    IsSize shape.layout shape.size → AreVariables env → used env ≤ room_of shape → ReadsBack shape flag env

-- the variables of a terminated area fit into it
abbrev pub LoadedFits : Type 0
LoadedFits = (area : List ℕ) → IsTrue (is_terminated area) → used (vars_of (entries_of area)) ≤ length area
