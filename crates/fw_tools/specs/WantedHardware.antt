-- What is wanted to stand in for the hardware of a dry run (docs/dry-runs.md, "A script's own status").
use Rattle.std.specs.Prelude.{◌≡◌, Bool, List, [], ◌∷◌}
use Rattle.clap.specs.Words.{Text}
use Rattle.hush_commands.specs.declared.departure.Leaving.{Leaving}
use Rattle.hush_commands.specs.declared.departure.Leaving.TheVariants.{Boots, Resets}
use Rattle.hush_commands.specs.Stubs.{Statuses, with_leaving}
use Rattle.hush_commands.specs.Hardware.{Hardware}
use Rattle.fw_arguments.specs.DryRuns.{DryRun}
use Rattle.fw_files.specs.FileTexts.{Holds}
use Rattle.fw_files.specs.Files.{AreRulesOf, AreStubsOf}

-- the stand-ins, with those of these names made to leave the board so
abbrev pub with_leavings : Leaving → Statuses → List Text → Statuses
with_leavings leaving stand_ins [] = stand_ins
with_leavings leaving stand_ins (name ∷ names) = with_leavings leaving (with_leaving leaving stand_ins name) names

-- with those that boot, and then those that reset it
abbrev pub with_departures : DryRun → Statuses → Statuses
with_departures run read = with_leavings Resets (with_leavings Boots read run.boots) run.resets

abbrev pub AreStandInsOf : Holds → DryRun → Statuses → Type 0
AreStandInsOf holds run stand_ins = (read : Statuses) × AreStubsOf holds run.stand_ins read × (stand_ins ≡ with_departures run read)

-- what stands in for hardware; answers may be open if the board may be asked
abbrev pub IsHardwareOf : Holds → (may_ask : Bool) → DryRun → Hardware → Type 0
IsHardwareOf holds may_ask run given = AreStandInsOf holds run given.stubs × AreRulesOf holds may_ask run.board given.rules
