-- How a subcommand leaves the copies (docs/tools.md, "Devices" and "Other programs").
use Rattle.std.specs.Prelude.{◌≡◌, ◌⊎◌, ℕ, Bool, true, false, List, [], Option, codes}
use Rattle.env_session.specs.Session.{Held}
use Rattle.envimg_core.specs.declared.choice.Choice.{Choice}
use Rattle.fw_engines.specs.declared.tool_end.ToolEnd.{ToolEnd}
use Rattle.fw_engines.specs.Streams.{AppendsFront}
use Rattle.fw_files.specs.Copies.{over_data}
use Rattle.fw_tools.specs.Said.{Says, SaysSome}
use Rattle.fw_files.specs.WrittenBack.{AreKept, AreLeft, AreSafe, Devices}
use Rattle.fw_files.specs.declared.source.Source.{Source}

-- such a warning, or none, is printed as far as standard error takes it
abbrev pub IsWarning : List ℕ → Type 0
IsWarning text = (text ≡ []) ⊎ ((text ≡ over_data (codes "first")) ⊎ (text ≡ over_data (codes "second")))

abbrev pub MayWarn : Option (List ℕ) → Option (List ℕ) → Type 0
MayWarn old new = (text : List ℕ) × IsWarning text × AppendsFront old new text

-- What stopped the subcommand is reported, if anything did. If the session's copies are to be kept, they are written back
-- before that, perhaps after a warning that one is written over other data; or a possibly empty text on one that can't be
-- written.
abbrev pub Closes : (kept : Bool) → (last : Choice) → Source → (session : Held) → ToolEnd → Devices → Option (List ℕ) → Option (List ℕ) → ℕ → Type 0
Closes true last source session end devices old new status =
    AreSafe last source session devices
    × ((SaysSome old new × (status ≡ 1))
    ⊎ ((warned : Option (List ℕ)) × MayWarn old warned × Says end.fault warned new × (status ≡ end.status) × AreKept source session devices))
Closes false last source session end devices old new status = Says end.fault old new × (status ≡ end.status) × AreLeft devices
