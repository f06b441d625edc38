-- Why a subcommand has no session to work over (docs/tools.md, "Subcommands over files").
use Rattle.std.specs.Prelude.{◌≡◌, ◌⊎◌, ℕ, List, Option, Some, None}
use Rattle.clap.specs.Words.{Text}
use Rattle.envcfg_core.specs.Config.{config_view}
use Rattle.envcfg_core.specs.declared.config.Config.{Config}
use Rattle.envimg_core.specs.Geometry.{Shape}
use Rattle.envimg_core.specs.declared.geometry.Order.{Order}
use Rattle.fw_arguments.specs.Calls.{Call, LockFiles, spares}
use Rattle.fw_arguments.specs.declared.wanted_copy.WantedCopy.{WantedCopy}
use Rattle.fw_files.specs.FileTexts.{Holds}
use Rattle.fw_files.specs.Locks.{IsLockStop}
use Rattle.fw_files.specs.Opening.{AreCopies, AreWantedIn, StopsOpening}
use Rattle.fw_files.specs.Source.{AreSettingsAt}
use Rattle.fw_files.specs.Stops.{IsAbout, IsCopyStop}
use Rattle.fw_files.specs.WantedCopy.{refusal_of}
use Rattle.fw_files.specs.declared.source.Source.{Source}
use Rattle.fw_files.specs.declared.stop.Stop.{Stop}
use Rattle.fw_files.specs.declared.stop.Stop.TheVariants.{Memory}

-- the copies of the configuration at a path can't be read
abbrev pub IsNamedStop : Holds → (config : Text) → Stop → Type 0
IsNamedStop holds config why =
    (named : Config) × AreSettingsAt holds config (config_view named) × IsCopyStop named why

-- why copies in devices can't be read: that, its file can't be used, or a lock file can't be locked
abbrev pub IsDeviceStop : Holds → (config : Text) → LockFiles → Stop → Type 0
IsDeviceStop holds config locks why = IsAbout config why ⊎ IsLockStop locks why ⊎ IsNamedStop holds config why

-- for an image in memory only memory is needed
abbrev pub IsReadStop : Holds → (config : Text) → (image : Option ℕ) → LockFiles → Stop → Type 0
IsReadStop holds config None locks why = IsDeviceStop holds config locks why
IsReadStop holds config (Some size) locks why = why ≡ Memory

-- copies were read, and the one that is asked for can't be taken
abbrev pub IsRefusedCopy : Holds → (config : Text) → (image : Option ℕ) → Order → WantedCopy → Stop → Type 0
IsRefusedCopy holds config image order wanted why =
    (shape : Shape) × (first : List ℕ) × (second : Option (List ℕ))
    × AreCopies holds config image order shape first second × (refusal_of wanted shape first second ≡ Some why)

-- why there are no copies for a call
abbrev pub IsCopiesStop : Holds → Call → Stop → Type 0
IsCopiesStop holds call why =
    IsReadStop holds call.config call.image call.locks why
    ⊎ IsRefusedCopy holds call.config call.image call.order call.copy why ⊎ (why ≡ Memory)

-- why no session is opened over copies
abbrev pub IsOpeningStop : Holds → Call → Stop → Type 0
IsOpeningStop holds call why =
    (source : Source) × AreWantedIn holds call.config call.image call.order call.copy source
    × StopsOpening source call.defaults (spares call) why
