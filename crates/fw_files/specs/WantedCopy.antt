-- One copy that is asked for by its number (docs/tools.md, "Subcommands over files").
use Rattle.std.specs.Prelude.{◌≡◌, ℕ, Bool, true, false, List, Option, Some, None, option_map, unwrap_or}
use Rattle.envimg_core.specs.Geometry.{Shape}
use Rattle.envimg_core.specs.State.{state_of}
use Rattle.envimg_core.specs.declared.state.CopyState.{CopyState}
use Rattle.envimg_core.specs.declared.state.CopyState.TheVariants.{Good}
use Rattle.fw_arguments.specs.declared.wanted_copy.WantedCopy.{WantedCopy}
use Rattle.fw_arguments.specs.declared.wanted_copy.WantedCopy.TheVariants.{Current, First, Second}
use Rattle.fw_files.specs.Source.{second_bytes}
use Rattle.fw_files.specs.declared.source.Source.{Source}
use Rattle.fw_files.specs.declared.stop.Stop.{Stop}
use Rattle.fw_files.specs.declared.stop.Stop.TheVariants.{BadCopy, Memory, NoSecondCopy}

-- why a copy in this state can't be taken, if it can't
abbrev pub unless_good : (is_second : Bool) → CopyState → Option Stop
unless_good is_second (Good flag) = None
unless_good is_second state = Some (BadCopy is_second state)

-- why the copy that is asked for can't be taken, if it can't
abbrev pub refusal_of : WantedCopy → Shape → (first : List ℕ) → (second : Option (List ℕ)) → Option Stop
refusal_of Current shape first second = None
refusal_of First shape first second = unless_good false (state_of shape first)
refusal_of Second shape first None = Some NoSecondCopy
refusal_of Second shape first (Some second) = unless_good true (state_of shape second)

-- that is reported; if it can be taken, memory ran out
abbrev pub IsRefusal : Option Stop → Stop → Type 0
IsRefusal None stop = stop ≡ Memory
IsRefusal (Some refusal) stop = stop ≡ refusal

-- the copies over which a session is opened: the one that is asked for is in the place of each
abbrev pub first_for : WantedCopy → (first : List ℕ) → (second : Option (List ℕ)) → List ℕ
first_for Current first second = first
first_for First first second = first
first_for Second first second = unwrap_or second first

abbrev pub second_for : WantedCopy → (first : List ℕ) → (second : Option (List ℕ)) → Option (List ℕ)
second_for Current first second = second
second_for First first second = option_map (λ _. first) second
second_for Second first second = second

-- the same of what was read
pub record ArePlaced (wanted : WantedCopy) (read source : Source) : Type 0 where
  pub geometry : source.geometry ≡ read.geometry
  pub first : source.first.bytes.items ≡ first_for wanted read.first.bytes.items (second_bytes read.second)
  pub second : second_bytes source.second ≡ second_for wanted read.first.bytes.items (second_bytes read.second)

-- and that copy is good
abbrev pub IsWantedIn : WantedCopy → (read : Source) → Source → Type 0
IsWantedIn wanted read source =
    (refusal_of wanted read.geometry read.first.bytes.items (second_bytes read.second) ≡ None) × ArePlaced wanted read source
