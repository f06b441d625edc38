-- How a board is left by a command that doesn't come back (docs/runs.md, "Boards").
use Rattle.std.specs.Prelude.{◌≡◌, refl, ℕ, ◌==◌, Bool, true, false, Option, Some, None, if◌then◌else◌}
use Rattle.std.specs.Coded.{Coded, code_by, coded_bool, coded_option}
use Rattle.hush_commands.specs.declared.departure.Leaving.{Leaving}
use Rattle.hush_commands.specs.declared.departure.Leaving.TheVariants.{Boots, Resets, Asks}

-- a command that fails comes back
abbrev pub leaving_with : (leaves : Option Leaving) → (status : ℕ) → Option Leaving
leaving_with leaves status = if status == 0 then leaves else None

-- whether the answer of a call is open: the run ends there, to be begun again with an answer
abbrev pub is_asking : Option Leaving → Bool
is_asking None = false
is_asking (Some Boots) = false
is_asking (Some Resets) = false
is_asking (Some Asks) = true

abbrev leaving_bool : Leaving → Option Bool
leaving_bool Boots = Some true
leaving_bool Resets = Some false
leaving_bool Asks = None

abbrev bool_leaving : Option Bool → Leaving
bool_leaving (Some true) = Boots
bool_leaving (Some false) = Resets
bool_leaving None = Asks

abbrev leaving_again : (l : Leaving) → bool_leaving (leaving_bool l) ≡ l
leaving_again Boots = refl
leaving_again Resets = refl
leaving_again Asks = refl

abbrev pub leaving_code : Coded Leaving
leaving_code = code_by (Option Bool) (coded_option coded_bool) leaving_bool bool_leaving leaving_again
