-- What is left when a part is done. (How the code goes about it; what a run means is in Meaning.)
use Rattle.std.specs.Prelude.{◌≡◌, ℕ, ◌+◌, ◌*◌, ◌≤◌, List, [], ◌∷◌, length, Option, Some, None, Result, Ok, Err}
use Rattle.hush_run.specs.declared.frames.Frame.{Frame}
use Rattle.hush_run.specs.declared.frames.Frame.TheVariants as frame
use Rattle.hush_run.specs.declared.descent.Passed.{Passed}
use Rattle.hush_run.specs.declared.descent.Passed.TheVariants as passed
use Rattle.hush_run.specs.declared.due.Due.{Due}
use Rattle.hush_run.specs.declared.due.Due.TheVariants as due
use Rattle.hush_run.specs.declared.ending.Ending.{Ending}
use Rattle.hush_run.specs.declared.ending.Ending.TheVariants as ending
use Rattle.hush_syntax.specs.Scripts.{Parsed}
use Rattle.hush_commands.specs.declared.shell.Shell.{Shell}
use Rattle.hush_run.specs.Meaning.{Rules, State, Goes, Leaves, with_status}
use Rattle.hush_run.specs.Resume.{begin_in, at_in, resume, IsStack}
use Rattle.hush_run.specs.Turns.{due_does, IsDue, due_room}
use Rattle.hush_run.specs.Stacks.{script_frames}

-- something is due, or nothing is left
abbrev pub IsEnd : Due → List Frame → Type 0
IsEnd due.Over frames = frames ≡ []
IsEnd (due.Node node) frames = Unit {0}
IsEnd (due.Binding node fields) frames = Unit {0}
IsEnd (due.Start names) frames = Unit {0}
IsEnd (due.Delete force failed names) frames = Unit {0}
IsEnd (due.Answer words text) frames = Unit {0}

-- what is left of a run is what is due, and after it the frames
abbrev pub IsLeft : Shell → List Parsed → List Frame → ℕ → List Parsed → List Frame → ℕ → Due → Type 0
IsLeft shell scripts frames status scripts' frames' status' due =
    IsStack scripts' frames' × IsDue (at_in scripts') due × (1 ≤ length scripts') × (length scripts' ≤ length scripts)
    × (length frames' + due_room (at_in scripts') due ≤ script_frames * length scripts') ×
    ((rules : Rules) → rules.shell ≡ shell → (s : State) → s.steps ≤ rules.limits.steps →
    resume rules scripts frames (Goes (with_status status s))
    ≡ resume rules scripts' frames' (due_does rules (begin_in rules scripts') (at_in scripts') due (with_status status' s)))

abbrev pub Rises : Shell → List Parsed → List Frame → ℕ → List Parsed → List Frame → ℕ → Due → Type 0
Rises shell scripts frames status scripts' frames' status' due =
    IsEnd due frames' × IsLeft shell scripts frames status scripts' frames' status' due

-- an `exit` has left its text, and this is due after it; or it has left the script itself
abbrev pub LeavesText : List Parsed → List Frame → (own status : ℕ) → List Parsed → List Frame → ℕ → Result Due Ending → Type 0
LeavesText scripts frames own status scripts' frames' status' (Ok due) =
    IsStack scripts' frames' × IsDue (at_in scripts') due × (1 ≤ length scripts') × (length scripts' ≤ length scripts)
    × (length frames' + due_room (at_in scripts') due ≤ script_frames * length scripts') ×
    ((rules : Rules) (s : State) → resume rules scripts frames (Leaves own (with_status status s))
    ≡ resume rules scripts' frames' (due_does rules (begin_in rules scripts') (at_in scripts') due (with_status status' s)))
LeavesText scripts frames own status scripts' frames' status' (Err e) =
    (e ≡ ending.Exited) × (frames' ≡ []) × (last : ℕ) ×
    ((rules : Rules) (s : State) → resume rules scripts frames (Leaves own (with_status status s)) ≡ Leaves last (with_status status' s))

-- what an `exit` passes with a frame
abbrev pub passed_of : Frame → Passed
passed_of (frame.List node next) = passed.List
passed_of (frame.Chain node next) = passed.Other
passed_of (frame.Branch node branch) = passed.Other
passed_of (frame.Condition node last) = passed.Other
passed_of (frame.Body node) = passed.Other
passed_of (frame.Bindings node fields) = passed.Other
passed_of (frame.Started names) = passed.Text names

abbrev pub with_behind : Option Frame → List Frame → List Frame
with_behind None frames = frames
with_behind (Some f) frames = f ∷ frames
