-- One step of a run, whatever it is. (How the code goes about it; what a run means is in Meaning.)
use Rattle.std.specs.Prelude.{◌≡◌, ℕ, suc, ◌+◌, ◌*◌, ◌≤◌, List, length, Option, Some, None, Result, Ok, Err}
use Rattle.hush_syntax.specs.Scripts.{Parsed}
use Rattle.hush_syntax.specs.Grammar.{Chains}
use Rattle.hush_run.specs.declared.frames.Frame.{Frame}
use Rattle.hush_run.specs.declared.due.Due.{Due}
use Rattle.hush_run.specs.declared.ending.Ending.{Ending}
use Rattle.hush_run.specs.Runs.{reason_of}
use Rattle.hush_run.specs.Meaning.{Rules, Reason, State, Out, ended, place_in, run_of, run_from, within}
use Rattle.hush_run.specs.Resume.{begin_in, at_in, place_of, resume, IsStack}
use Rattle.hush_run.specs.Turns.{due_does, due_room, IsDue}
use Rattle.hush_run.specs.Steps.{Counted}
use Rattle.hush_run.specs.Stacks.{script_frames, frame_limit}

-- what is due, and after it the frames
abbrev pub due_left : Rules → List Parsed → List Frame → Due → State → Out
due_left rules calls frames due s = resume rules calls frames (due_does rules (begin_in rules calls) (at_in calls) due s)

pub record IsReady (rules : Rules) (calls : List Parsed) (frames : List Frame) (capacity : ℕ) (due : Due) : Type 0 where
  pub stack : IsStack calls frames
  pub is_due : IsDue (at_in calls) due
  pub some : 1 ≤ length calls
  pub calls_fit : length calls ≤ rules.limits.depth + 1
  pub frames_fit : length frames + due_room (at_in calls) due ≤ script_frames * length calls
  pub capacity_fits : capacity ≡ frame_limit rules.limits.depth

-- it has ended so, in the text of this variable
abbrev pub EndsAt : Out → Reason → State → Option (List ℕ) → Type 0
EndsAt o e t place = (ended o ≡ (e, t)) × (place_in o ≡ place)

-- the run has ended so, at these frames; or memory was refused, and the state is that of the run that may count no more steps
abbrev pub EndsSo : Rules → List Parsed → List Frame → Due → State → List Frame → State → Option Reason → Type 0
EndsSo rules calls frames due s new t (Some e) = EndsAt (due_left rules calls frames due s) e t (place_of new)
EndsSo rules calls frames due s new t None = (t.steps ≡ s.steps) × ((ended (due_left (within s.steps rules) calls frames due s)).1 ≡ t)

-- a step was done and the rest is the same under each limit on the steps that lets it count; or the run halts
abbrev pub Advances : Rules → List Parsed → List Frame → Due → State → List Parsed → List Frame → ℕ → State → Result Due Ending → Type 0
Advances rules calls old due s after new capacity t (Ok next) =
    Counted rules s t × IsReady rules after new capacity next
    × ((n : ℕ) → suc s.steps ≤ n → due_left (within n rules) calls old due s ≡ due_left (within n rules) after new next t)
Advances rules calls old due s after new capacity t (Err ending) = EndsSo rules calls old due s new t (reason_of ending)

-- a run from a state has ended so
abbrev pub Ran : Rules → Option Chains → State → State → (place : Option (List ℕ)) → Option Reason → Type 0
Ran rules tree s t place (Some e) = EndsAt (run_of rules tree s) e t place
Ran rules tree s t place None = (t.steps ≤ rules.limits.steps) × ((run_from (within t.steps rules) tree s).1 ≡ t)
