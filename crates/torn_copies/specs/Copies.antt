-- The environment that two copies open.
use Rattle.std.specs.Prelude.{ℕ, List, take, drop, Option, Some, None, option_map, ⊤}
use Rattle.envimg_core.specs.Environment.{Environment}
use Rattle.envimg_core.specs.Geometry.{Shape, area_of}
use Rattle.envimg_core.specs.Pieces.{entries_of, vars_of}
use Rattle.envimg_core.specs.State.{state_of, choice_of}
use Rattle.envimg_core.specs.declared.state.CopyState.{CopyState}
use Rattle.envimg_core.specs.declared.state.CopyState.TheVariants.{Good, BadLength, BadCrc, Unterminated}
use Rattle.envimg_core.specs.declared.choice.Choice.{Choice}
use Rattle.envimg_core.specs.declared.choice.Choice.TheVariants.{First, Second, Neither}

-- which of two copies is current
abbrev pub choice_in : Shape → List ℕ → List ℕ → Choice
choice_in shape first second = choice_of (state_of shape first) (state_of shape second)

abbrev pub bytes_of_choice : Choice → List ℕ → List ℕ → Option (List ℕ)
bytes_of_choice First first second = Some first
bytes_of_choice Second first second = Some second
bytes_of_choice Neither first second = None

-- the variables that they open; none if neither is good
abbrev pub opened : Shape → List ℕ → List ℕ → Option Environment
opened shape first second =
    option_map (λ copy. vars_of (entries_of (area_of shape copy)))
    (bytes_of_choice (choice_in shape first second) first second)

abbrev pub IsGood : CopyState → Type 0
IsGood (Good flag) = ⊤
IsGood BadLength = ⊥
IsGood BadCrc = ⊥
IsGood Unterminated = ⊥

-- it opens by its own checksum
abbrev pub Passes : Shape → List ℕ → Type 0
Passes shape copy = IsGood (state_of shape copy)

-- the copy that begins here
abbrev pub copy_at : Shape → ℕ → List ℕ → List ℕ
copy_at shape at device = take shape.size (drop at device)
