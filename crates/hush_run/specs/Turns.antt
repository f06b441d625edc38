-- What a frame results in when what was above it is done. (How the code goes about it; what a run means is in Meaning.)
use Rattle.std.specs.Prelude.{◌≡◌, ℕ, suc, ◌<◌, ◌≤◌, List, length, Option, Some, None, IsSome}
use Rattle.hush_syntax.specs.declared.nodes.NodeId.{NodeId}
use Rattle.hush_run.specs.declared.frames.Frame.{Frame}
use Rattle.hush_run.specs.declared.frames.Frame.TheVariants as frame
use Rattle.hush_run.specs.declared.due.Due.{Due}
use Rattle.hush_run.specs.declared.due.Due.TheVariants as due
use Rattle.hush_run.specs.declared.turns.Turn.{Turn}
use Rattle.hush_run.specs.declared.node_step.After.{After}
use Rattle.hush_run.specs.declared.node_step.After.TheVariants as after
use Rattle.hush_syntax.specs.declared.nodes.Branch.{Branch}
use Rattle.hush_syntax.specs.Nodes.{At, Subtree, OfChains, OfChain, OfCommand, AreBranches}
use Rattle.hush_syntax.specs.Scripts.{Parsed}
use Rattle.hush_syntax.specs.Grammar.{Simple, Assign, If, For, While, Until, Chains, Branches, Elif}
use Rattle.hush_commands.specs.declared.shell.Shell.{Shell}
use Rattle.hush_run.specs.Counting.{Counting}
use Rattle.hush_run.specs.Meaning.{Rules, Begin, State, Out, Goes, Leaves, ◌>>=◌, with_status, Answer, in_turn, deletions}
use Rattle.hush_run.specs.Resume.{subtree_does, frame_does, room, frame_room, IsFrame, enclosed, owners}

abbrev pub due_does : Rules → Begin → At → Due → State → Out
due_does rules begin at due.Over = Goes
due_does rules begin at (due.Node node) = subtree_does rules begin (at node)
due_does rules begin at (due.Binding node fields) = frame_does rules begin at (frame.Bindings node fields)
due_does rules begin at (due.Start names) = in_turn begin names
due_does rules begin at (due.Delete force failed names) = deletions rules force failed names
due_does rules begin at (due.Answer words text) = begin (Answer words text)

abbrev pub behind_does : Rules → Begin → At → Option Frame → State → Out
behind_does rules begin at None = Goes
behind_does rules begin at (Some f) = frame_does rules begin at f

-- what the frame that is left makes of what is due
abbrev pub enclosed_behind : Shell → Option Frame → Out → Out
enclosed_behind shell None o = o
enclosed_behind shell (Some f) o = enclosed shell f o

abbrev pub IsForNode : Option Subtree → Type 0
IsForNode None = ⊥
IsForNode (Some (OfChains cs)) = ⊥
IsForNode (Some (OfChain c)) = ⊥
IsForNode (Some (OfCommand (Simple words))) = ⊥
IsForNode (Some (OfCommand (Assign name value))) = ⊥
IsForNode (Some (OfCommand (If c d b))) = ⊥
IsForNode (Some (OfCommand (For name words d))) = Unit {0}
IsForNode (Some (OfCommand (While c d))) = ⊥
IsForNode (Some (OfCommand (Until c d))) = ⊥

abbrev pub IsDue : At → Due → Type 0
IsDue at due.Over = Unit {0}
IsDue at (due.Node node) = IsSome (at node)
IsDue at (due.Binding node fields) = (0 < length fields) × IsForNode (at node) × IsSome (at node)
IsDue at (due.Start names) = 0 < length names
IsDue at (due.Delete force failed names) = 0 < length names
IsDue at (due.Answer words text) = Unit {0}

-- the frames that it may need
abbrev pub due_room : At → Due → ℕ
due_room at due.Over = 0
due_room at (due.Node node) = room (at node)
due_room at (due.Binding node fields) = room (at node)
due_room at (due.Start names) = 1
due_room at (due.Delete force failed names) = 0
due_room at (due.Answer words text) = 1

abbrev pub IsPart : Due → Type 0
IsPart due.Over = ⊥
IsPart (due.Node node) = Unit {0}
IsPart (due.Binding node fields) = Unit {0}
IsPart (due.Start names) = Unit {0}
IsPart (due.Delete force failed names) = Unit {0}
IsPart (due.Answer words text) = Unit {0}

-- the frame that is left: there is none if nothing is due
abbrev pub Behind : At → ℕ → Due → Option Frame → Type 0
Behind at most due None = due_room at due ≤ most
Behind at most due (Some f) =
    IsPart due × IsFrame at f × ((scripts : List Parsed) → owners f scripts ≡ scripts)
    × (frame_room at f ≤ most) × (suc (due_room at due) ≤ most)

abbrev pub SameTurn : Shell → At → (Rules → Begin → State → Out) → ℕ → Turn → Type 0
SameTurn shell at does status turn =
    (rules : Rules) → rules.shell ≡ shell → (begin : Begin) → Counting rules begin → (s : State) → s.steps ≤ rules.limits.steps →
    does rules begin (with_status status s) ≡ (enclosed_behind rules.shell turn.behind (due_does rules begin at turn.due (with_status turn.status s)) >>= behind_does rules begin at turn.behind)

abbrev pub Turns : Shell → At → Frame → ℕ → Turn → Type 0
Turns shell at f status turn =
    IsDue at turn.due × Behind at (frame_room at f) turn.due turn.behind × SameTurn shell at (λ rules begin. frame_does rules begin at f) status turn

-- what is due after a step of a script; or an `exit` leaves its text
abbrev pub after_does : Rules → Begin → At → After → State → Out
after_does rules begin at (after.Goes due) = due_does rules begin at due
after_does rules begin at (after.Leaves own) = λ s. Leaves own s

abbrev pub FitsAfter : At → ℕ → After → Type 0
FitsAfter at most (after.Goes due) = IsDue at due × (due_room at due ≤ most)
FitsAfter at most (after.Leaves own) = Unit {0}

-- the branches of a node
abbrev pub BranchesTurn : Shell → List Branch → Option NodeId → NodeId → ℕ → ℕ → Turn → Type 0
BranchesTurn shell branches last node branch status turn =
    (at : At) (c d : Chains) (b : Branches) → at node ≡ Some (OfCommand (If c d b)) →
    AreBranches at branches last (Elif c d b) → Turns shell at (frame.Branch node branch) status turn
