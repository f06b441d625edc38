-- What `run` does over a session (docs/dry-runs.md, "A script's own status").
use Rattle.std.specs.Prelude.{◌≡◌, ℕ, ◌==◌, ◌&&◌, Bool, true, false, if◌then◌else◌, List, [], ◌∷◌, ◌++◌, Option, Some, None, codes, is_none, ⊤}
use Rattle.std.specs.List.{flat_map}
use Rattle.clap.specs.Words.{Text}
use Rattle.env_session.specs.Session.{Held}
use Rattle.hush_syntax.specs.Grammar.{Chains}
use Rattle.hush_syntax.specs.Halts.{fault_in}
use Rattle.hush_syntax.specs.Reading.{read_in}
use Rattle.hush_syntax.specs.declared.nodes.Bodies.{Bodies}
use Rattle.hush_commands.specs.Hardware.{Hardware}
use Rattle.hush_run.specs.Meaning.{bodies_of}
use Rattle.hush_run.specs.Runs.{rules_in}
use Rattle.hush_run.specs.declared.ending.Ending.{Ending}
use Rattle.hush_run.specs.declared.ending.Ending.TheVariants as ending
use Rattle.fw_session.specs.ScriptRun.{TracesScript}
use Rattle.fw_session.specs.declared.script_run.RunEnd.{RunEnd}
use Rattle.fw_engines.specs.Streams.{Writers}
use Rattle.fw_arguments.specs.DryRuns.{GivenScript, Names, Words, File, ScriptRun}
use Rattle.fw_files.specs.declared.stop.Stop.TheVariants as stop
use Rattle.fw_tools.specs.declared.halt.Halt.{Halt}
use Rattle.fw_tools.specs.declared.halt.Halt.TheVariants as halt
use Rattle.fw_files.specs.WrittenBack.{Devices}
use Rattle.fw_files.specs.declared.source.Source.{Source}
use Rattle.fw_tools.specs.Closing.{Closes}
use Rattle.fw_tools.specs.WantedHardware.{IsHardwareOf}
use Rattle.fw_files.specs.FileTexts.{Holds}
use Rattle.fw_files.specs.Files.{IsTextAt}

-- a byte of a name in quotes; a quote is outside of them
abbrev pub quoted : ℕ → List ℕ
quoted b = if b == 39 then codes "'\\''" else b ∷ []

abbrev pub quoted_name : Text → List ℕ
quoted_name name = codes " '" ++ flat_map quoted name ++ codes "'"

-- a `run` of these names
abbrev pub starts : List Text → List ℕ
starts names = codes "run" ++ flat_map quoted_name names

-- the text that is run
abbrev pub IsTextOf : Holds → GivenScript → List ℕ → Type 0
IsTextOf holds (Names names) text = text ≡ starts names
IsTextOf holds (Words given) text = text ≡ given
IsTextOf holds (File path) text = IsTextAt holds path text

-- the name that it has in a message that it isn't a script
abbrev pub name_of_script : GivenScript → Text
name_of_script (Names names) = codes "run"
name_of_script (Words given) = codes "-e"
name_of_script (File path) = path

-- the text of this name isn't a script, by its first fault; or memory ran out
abbrev pub IsHaltOf : Bodies → (name text : List ℕ) → Halt → Type 0
IsHaltOf bodies name text (halt.Script named given fault) =
    (named.now ≡ name) × (given.items ≡ text) × (read_in bodies text ≡ None) × (fault_in bodies text ≡ Some fault)
IsHaltOf bodies name text (halt.Files stop.Memory) = ⊤
IsHaltOf bodies name text halt = ⊥

-- it ended for another reason
abbrev pub IsNoScript : Halt → Type 0
IsNoScript (halt.Script name text fault) = ⊥
IsNoScript halt = ⊤

-- the copies are written back if that was asked for, whatever the script's status; not if memory ran out in it, or if
-- what it printed couldn't be written
abbrev pub is_whole : Ending → Bool
is_whole ending.Memory = false
is_whole other = true

abbrev pub is_kept : Bool → RunEnd → Bool
is_kept write ended = write && is_whole ended.ending && is_none ended.end.fault

-- a script with this tree is run over a session, and the session is left; the copy that was current is written last
abbrev pub RunsTree : ScriptRun → Hardware → Option Chains → Source → Held → Devices → Writers → Writers → ℕ → Type 0
RunsTree run given tree source session devices old new status =
    (after : Held) × (between : Option (List ℕ)) × (ended : RunEnd)
    × TracesScript (rules_in run.dry.shell given run.dry.limits) run.must_boot run.trace tree session after old (record { output = new.output; errors = between }) ended
    × Closes (is_kept run.dry.write ended) session.now.current source after ended.end devices between new.errors status

-- the text is a script by the rules of the shell
abbrev pub IsScriptFor : Holds → ScriptRun → Option Chains → Type 0
IsScriptFor holds run tree = (text : List ℕ) × IsTextOf holds run.script text × (read_in (bodies_of run.dry.shell) text ≡ Some tree)

-- or it isn't one, or it ended for another reason
abbrev pub HaltsRun : Holds → ScriptRun → Halt → Type 0
HaltsRun holds run (halt.Script named text fault) =
    IsTextOf holds run.script text.items × IsHaltOf (bodies_of run.dry.shell) (name_of_script run.script) text.items (halt.Script named text fault)
HaltsRun holds run halt = ⊤

-- the script is run, and no board is asked
abbrev pub RunsOver : Holds → ScriptRun → Source → Held → Devices → Writers → Writers → ℕ → Type 0
RunsOver holds run source session devices old new status =
    (given : Hardware) × (tree : Option Chains) × IsHardwareOf holds false run.dry given × IsScriptFor holds run tree
    × RunsTree run given tree source session devices old new status
