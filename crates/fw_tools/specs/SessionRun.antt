-- What a dry run over standard input and output does (docs/dry-runs.md).
use Rattle.std.specs.Prelude.{◌≡◌, ◌⊎◌, ℕ, Bool, true, false, List, [], ◌∷◌, ◌++◌, Option, Some, None, codes}
use Rattle.clap.specs.Words.{Text}
use Rattle.env_session.specs.Session.{Held}
use Rattle.envimg_core.specs.declared.choice.Choice.TheVariants.{Second}
use Rattle.hush_commands.specs.Hardware.{Hardware}
use Rattle.hush_run.specs.Runs.{rules_in}
use Rattle.fw_session.specs.Ends.{Ends}
use Rattle.fw_session.specs.Turns.{NamedSession}
use Rattle.fw_session.specs.NamedSessions.{unnamed}
use Rattle.fw_session.specs.declared.session_end.SessionEnding.{SessionEnding}
use Rattle.fw_session.specs.declared.session_end.SessionEnding.TheVariants as ending
use Rattle.fw_arguments.specs.DryRuns.{DryRun}
use Rattle.fw_files.specs.Locks.{HasWaited}
use Rattle.fw_tools.specs.Closing.{MayWarn}
use Rattle.fw_tools.specs.Said.{SaysSome, message_of}
use Rattle.fw_files.specs.WrittenBack.{AreKept, AreLeft, AreSafe, Devices}
use Rattle.fw_files.specs.declared.source.Source.{Source}
use Rattle.fw_tools.specs.WantedHardware.{IsHardwareOf}
use Rattle.fw_engines.specs.Streams.{AppendsFront, Streams}
use Rattle.fw_engines.specs.declared.tool_end.StreamFault.TheVariants.{Read, Write, Memory}
use Rattle.fw_files.specs.FileTexts.{Holds}

-- the copies are written back if that was asked for and the whole input was handled
abbrev pub is_kept : Bool → SessionEnding → Bool
is_kept write ending.Done = write
is_kept write other = false

-- what is printed at an ending
abbrev pub text_for : SessionEnding → Option Text
text_for ending.Done = None
text_for ending.ReadFault = Some (message_of Read)
text_for ending.TooLong = Some (codes "fwenv: input too long" ++ 10 ∷ [])
text_for ending.WriteFault = Some (message_of Write)
text_for ending.Memory = Some (message_of Memory)

-- it is printed as far as standard error takes it, and the status is 1; or there is nothing to print
abbrev pub Reports : Option Text → Option (List ℕ) → Option (List ℕ) → ℕ → Type 0
Reports None old new status = (new ≡ old) × (status ≡ 0)
Reports (Some text) old new status = AppendsFront old new text × (status ≡ 1)

-- the copies are written back: locks may have been waited for, and then a warning printed that one is written over other
-- data
abbrev pub WaitsAndWarns : Option (List ℕ) → Option (List ℕ) → Type 0
WaitsAndWarns old new = (waited : Option (List ℕ)) × HasWaited old waited × MayWarn waited new

-- if copies are written back, that may fail
abbrev pub ClosesDryRun : Bool → SessionEnding → Source → (after : Held) → Devices → Option (List ℕ) → Option (List ℕ) → ℕ → Type 0
ClosesDryRun true end source after devices old new status =
    AreSafe Second source after devices
    × ((SaysSome old new × (status ≡ 1))
    ⊎ ((said : Option (List ℕ)) × WaitsAndWarns old said × Reports (text_for end) said new status × AreKept source after devices))
ClosesDryRun false end source after devices old new status = Reports (text_for end) old new status × AreLeft devices

-- standard input is answered over a session, with this hardware
abbrev pub TriesWith : DryRun → Hardware → Source → Held → Devices → Streams → Streams → ℕ → Type 0
TriesWith run given source session devices old new status =
    (end : SessionEnding) × (read : ℕ) × (written : ℕ) × (after : NamedSession)
    × Ends end (rules_in run.shell given run.limits) (unnamed session) old.input new.input old.output new.output read written after
    × ClosesDryRun (is_kept run.write end) end source after.held devices old.errors new.errors status

-- no board is asked
abbrev pub TriesOver : Holds → DryRun → Source → Held → Devices → Streams → Streams → ℕ → Type 0
TriesOver holds run source session devices old new status =
    (given : Hardware) × IsHardwareOf holds false run given × TriesWith run given source session devices old new status
