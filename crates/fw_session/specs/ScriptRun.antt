-- What `run` prints of a script's run (docs/dry-runs.md, "A script's own status").
use Rattle.std.specs.Prelude.{◌≡◌, ℕ, ◌==◌, ◌&&◌, not, Bool, true, false, List, [], ◌∷◌, codes, get_or, if◌then◌else◌, Option, Some, None}
use Rattle.std.specs.Fmt.{decimal}
use Rattle.std.specs.List.{concat}
use Rattle.env_session.specs.Session.{Held}
use Rattle.hush_syntax.specs.Grammar.{Chains}
use Rattle.hush_run.specs.Meaning.{Rules}
use Rattle.hush_run.specs.Runs.{Departs, EndsIn, Runs, ending_name}
use Rattle.hush_run.specs.declared.ending.Ending.{Ending}
use Rattle.hush_run.specs.declared.ending.Ending.TheVariants as ending
use Rattle.hush_commands.specs.declared.departure.Departure.{Departure}
use Rattle.hush_commands.specs.declared.departure.Leaving.{Leaving}
use Rattle.hush_commands.specs.declared.departure.Leaving.TheVariants.{Boots, Resets, Asks}
use Rattle.hush_run.specs.declared.outcome.Course.{Course}
use Rattle.fw_engines.specs.Streams.{AppendsFront, Writers}
use Rattle.fw_engines.specs.Tool.{Prints, Texts}
use Rattle.fw_session.specs.declared.script_run.RunEnd.{RunEnd}

-- a run reached its end or an `exit`, with status 0
abbrev pub is_well : Ending → (status : ℕ) → Bool
is_well ending.Finished status = status == 0
is_well ending.Exited status = status == 0
is_well e status = false

-- a run left the board as it boots
abbrev pub is_boots : Leaving → Bool
is_boots Boots = true
is_boots Resets = false
is_boots Asks = false

abbrev pub has_booted : Option Departure → Bool
has_booted None = false
has_booted (Some departure) = is_boots departure.leaving

-- what is printed of a run that ended otherwise: that memory ran out; or its status, if no limit stopped it;
-- or the variable in whose text a limit stopped it, unless that was the script itself
abbrev pub ended_by_itself : (front name : List ℕ) → (status steps : ℕ) → List ℕ
ended_by_itself front name status steps =
    concat (front ∷ codes "run ended as " ∷ name ∷ codes " with status " ∷ decimal status ∷ codes " after " ∷ decimal steps ∷ codes " steps\n" ∷ [])

abbrev pub ended_by_limit : (name : List ℕ) → (place : Option (List ℕ)) → (steps : ℕ) → List ℕ
ended_by_limit name None steps = concat (codes "fwenv: run ended as " ∷ name ∷ codes " after " ∷ decimal steps ∷ codes " steps\n" ∷ [])
ended_by_limit name (Some variable) steps =
    concat (codes "fwenv: run ended as " ∷ name ∷ codes " in \"" ∷ variable ∷ codes "\" after " ∷ decimal steps ∷ codes " steps\n" ∷ [])

abbrev pub ended_so : Ending → (place : Option (List ℕ)) → (status steps : ℕ) → List ℕ
ended_so ending.Finished place status steps = ended_by_itself (codes "fwenv: ") (ending_name ending.Finished) status steps
ended_so ending.Exited place status steps = ended_by_itself (codes "fwenv: ") (ending_name ending.Exited) status steps
ended_so ending.Memory place status steps = codes "## Error: out of memory\n"
ended_so e place status steps = ended_by_limit (ending_name e) place steps

-- of one that had to boot, and ended well without: by which command it was reset, and in which variable's text
abbrev pub reset_line : (called : List ℕ) → (place : Option (List ℕ)) → (steps : ℕ) → List ℕ
reset_line called None steps = concat (codes "fwenv: no boot: reset by \"" ∷ called ∷ codes "\" after " ∷ decimal steps ∷ codes " steps\n" ∷ [])
reset_line called (Some variable) steps =
    concat (codes "fwenv: no boot: reset by \"" ∷ called ∷ codes "\" in \"" ∷ variable ∷ codes "\" after " ∷ decimal steps ∷ codes " steps\n" ∷ [])

abbrev pub no_boot : Ending → (place : Option (List ℕ)) → Option Departure → (status steps : ℕ) → List ℕ
no_boot e place None status steps = ended_by_itself (codes "fwenv: no boot: ") (ending_name e) status steps
no_boot e place (Some departure) status steps = reset_line (get_or departure.words 0 []) place steps

abbrev pub ended_badly : (text errors : List ℕ) → Texts
ended_badly text errors = record { output = text; errors = errors; status = 1 }

-- the text of a run, and how it ended if it didn't end well, or had to boot and didn't
abbrev pub course_texts : (must_boot : Bool) → Course → Texts
course_texts must_boot course =
    let outcome = course.outcome in
    if not (is_well outcome.ending outcome.status)
    then ended_badly outcome.text.items (ended_so outcome.ending course.place outcome.status outcome.steps)
    else if must_boot && not (has_booted course.departure)
    then ended_badly outcome.text.items (no_boot outcome.ending course.place course.departure outcome.status outcome.steps)
    else record { output = outcome.text.items; errors = []; status = 0 }

-- a script with this tree was run, and its course printed
abbrev pub RunsScript : Rules → (must_boot : Bool) → Option Chains → (old new : Held) → (before after : Writers) → RunEnd → Type 0
RunsScript rules must_boot tree old new before after ended =
    (course : Course) × Runs rules tree old new course.outcome × EndsIn rules tree old course.outcome course.place
    × Departs rules tree old course.outcome course.departure
    × (ended.ending ≡ course.outcome.ending) × Prints before after (course_texts must_boot course) ended.end

-- the commands that were run are printed as far as standard error takes them, if they are wanted
abbrev pub SaysTrace : (traced : Bool) → Option (List ℕ) → Option (List ℕ) → Type 0
SaysTrace true old new = (text : List ℕ) × AppendsFront old new text
SaysTrace false old new = new ≡ old

-- a script was run, its commands printed, and then its course, which is the same whether they are wanted or not
abbrev pub TracesScript : Rules → (must_boot traced : Bool) → Option Chains → (old new : Held) → (before after : Writers) → RunEnd → Type 0
TracesScript rules must_boot traced tree old new before after ended =
    (said : Option (List ℕ)) × SaysTrace traced before.errors said
    × RunsScript rules must_boot tree old new (record { output = before.output; errors = said }) after ended
