-- What a run leaves, and what its outcome reports (docs/runs.md, "Meaning").
use Rattle.std.specs.Prelude.{◌≡◌, ◌≤◌, ℕ, List, [], codes, Option, Some, None}
use Rattle.env_session.specs.Session.{Held}
use Rattle.hush_syntax.specs.Grammar.{Chains}
use Rattle.run_limits.specs.Limits.{Bounds}
use Rattle.hush_commands.specs.Stubs.{Statuses}
use Rattle.hush_commands.specs.Hardware.{Hardware, hardware}
use Rattle.hush_commands.specs.declared.departure.Departure.{Departure}
use Rattle.hush_commands.specs.declared.shell.Shell.{Shell}
use Rattle.hush_commands.specs.declared.shell.Shell.TheVariants.{Strict}
use Rattle.hush_run.specs.declared.ending.Ending.{Ending}
use Rattle.hush_run.specs.declared.ending.Ending.TheVariants as ending
use Rattle.hush_run.specs.declared.outcome.Outcome.{Outcome}
use Rattle.hush_run.specs.Meaning.{Rules, Reason, State, meaning, place, within}
use Rattle.hush_run.specs.Meaning.Reason.{Finished, Exited, Steps, Depth, Word, Output}

-- what a run is given
abbrev pub rules_in : Shell → Hardware → Bounds → Rules
rules_in shell stand_ins limits = record { shell = shell; stand_ins = stand_ins; limits = limits }

abbrev pub rules : Statuses → Bounds → Rules
rules stand_ins limits = rules_in Strict (hardware [] stand_ins) limits

-- the ending of the definition; no value if memory was refused
abbrev pub reason_of : Ending → Option Reason
reason_of ending.Finished = Some Finished
reason_of ending.Exited = Some Exited
reason_of ending.Steps = Some Steps
reason_of ending.Depth = Some Depth
reason_of ending.Word = Some Word
reason_of ending.Output = Some Output
reason_of ending.Memory = None

-- the ending that reports it
abbrev pub ending_of : Reason → Ending
ending_of Finished = ending.Finished
ending_of Exited = ending.Exited
ending_of Steps = ending.Steps
ending_of Depth = ending.Depth
ending_of Word = ending.Word
ending_of Output = ending.Output

-- its name, as it is printed
abbrev pub ending_name : Ending → List ℕ
ending_name ending.Finished = codes "Finished"
ending_name ending.Exited = codes "Exited"
ending_name ending.Steps = codes "Steps"
ending_name ending.Depth = codes "Depth"
ending_name ending.Word = codes "Word"
ending_name ending.Output = codes "Output"
ending_name ending.Memory = codes "Memory"

-- the session, the status, the steps that are counted and the text are those of a state
pub record Shows (s : State) (now : Held) (outcome : Outcome) : Type 0 where
  pub held : now ≡ s.held
  pub status : outcome.status ≡ s.status
  pub steps : outcome.steps ≡ s.steps
  pub text : outcome.text.items ≡ s.printed.text

-- by the definition's ending: it is the meaning's and so is all that the run leaves; or memory was refused, and what
-- is left is what the run leaves that may count no more steps than were counted
abbrev pub RunsBy : Option Reason → Rules → Option Chains → (old new : Held) → Outcome → Type 0
RunsBy (Some reason) rules tree old new outcome = ((meaning rules tree old).0 ≡ reason) × Shows (meaning rules tree old).1 new outcome
RunsBy None rules tree old new outcome = (outcome.steps ≤ rules.limits.steps) × Shows (meaning (within outcome.steps rules) tree old).1 new outcome

abbrev pub Runs : Rules → Option Chains → (old new : Held) → Outcome → Type 0
Runs rules tree old new outcome = RunsBy (reason_of outcome.ending) rules tree old new outcome

-- the variable in whose text the run ended is the meaning's, if memory wasn't refused
abbrev pub EndsBy : Option Reason → Rules → Option Chains → Held → (ends_in : Option (List ℕ)) → Type 0
EndsBy (Some reason) rules tree old ends_in = ends_in ≡ place rules tree old
EndsBy None rules tree old ends_in = Unit {0}

-- the call with which the run left the board is the meaning's, if memory wasn't refused
abbrev pub DepartsBy : Option Reason → Rules → Option Chains → Held → (departure : Option Departure) → Type 0
DepartsBy (Some reason) rules tree old departure = departure ≡ (meaning rules tree old).1.departure
DepartsBy None rules tree old departure = Unit {0}

abbrev pub Departs : Rules → Option Chains → Held → Outcome → (departure : Option Departure) → Type 0
Departs rules tree old outcome departure = DepartsBy (reason_of outcome.ending) rules tree old departure

abbrev pub EndsIn : Rules → Option Chains → Held → Outcome → (ends_in : Option (List ℕ)) → Type 0
EndsIn rules tree old outcome ends_in = EndsBy (reason_of outcome.ending) rules tree old ends_in
