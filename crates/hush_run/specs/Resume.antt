-- What is left of a run, by its frames. (How the code goes about it; what a run means is in Meaning.)
use Rattle.std.specs.Prelude.{◌≡◌, ℕ, zero, suc, ◌+◌, ◌-◌, ◌*◌, ◌<◌, ◌≤◌, ◌==◌, Bool, true, false, if◌then◌else◌, List, [], ◌∷◌, map, drop, length, Option, Some, None, IsSome}
use Rattle.std.specs.Option.{option_or}
use Rattle.hush_syntax.specs.declared.nodes.NodeId.{NodeId}
use Rattle.hush_syntax.specs.declared.nodes.Operator.{Operator}
use Rattle.hush_run.specs.declared.frames.Frame.{Frame}
use Rattle.hush_run.specs.declared.frames.Frame.TheVariants as frame
use Rattle.hush_syntax.specs.Scripts.{Parsed, subtree_at}
use Rattle.hush_syntax.specs.Nodes.{At, Subtree, OfChains, OfChain, OfCommand}
use Rattle.hush_syntax.specs.Grammar.{Command, Simple, Assign, If, For, While, Until, Branches, Elif, Else, Fi, Chain, First, Links, End, Link, Chains, Last, More, depth, depth_in_chain, depth_inside}
use Rattle.hush_commands.specs.declared.shell.Shell.{Shell}
use Rattle.hush_run.specs.Counting.{Counting}
use Rattle.hush_run.specs.Meaning.{Rules, Begin, State, Out, Goes, ◌>>=◌, ◌then◌, with_status, goes_on, after_skip, loop_status, turns, if_ok, in_turn, bindings, joins, command, otherwise, chain, chains, start, in_list, in_text, in_answer, run_status}
use Rattle.hush_run.specs.Stacks.{script_frames}

abbrev pub subtree_does : Rules → Begin → Option Subtree → State → Out
subtree_does rules begin None = Goes
subtree_does rules begin (Some (OfChains cs)) = chains rules begin cs
subtree_does rules begin (Some (OfChain c)) = chain rules begin c
subtree_does rules begin (Some (OfCommand c)) = command rules begin c

-- the members of a list and of a chain
abbrev pub chain_list : Chains → List Chain
chain_list (Last c) = c ∷ []
chain_list (More c cs) = c ∷ chain_list cs

abbrev pub link_list : Links → List (Operator × Command)
link_list End = []
link_list (Link o c ls) = (o, c) ∷ link_list ls

abbrev pub run_chains : Rules → Begin → List Chain → State → Out
run_chains rules begin [] = Goes
run_chains rules begin (c ∷ cs) = λ s. in_list (chain rules begin c s) >>= run_chains rules begin cs

abbrev pub tagged : List (Operator × Command) → List (Option Operator × Command)
tagged ls = map (λ l. (Some l.0, l.1)) ls

-- the commands of a chain; the first has no operator
abbrev pub chain_links : Chain → List (Option Operator × Command)
chain_links (First c links) = (None, c) ∷ tagged (link_list links)

abbrev pub joined : Option Operator → ℕ → Bool
joined None status = true
joined (Some o) status = joins o (status == 0)

abbrev pub run_links : Rules → Begin → List (Option Operator × Command) → State → Out
run_links rules begin [] = Goes
run_links rules begin (l ∷ ls) = λ s. if joined l.0 s.status then (command rules begin l.1 s >>= run_links rules begin ls) else after_skip rules.shell (run_links rules begin ls) s

-- what a loop does after its condition
abbrev pub looks : Rules → Bool → (State → Out) → (State → Out) → ℕ → State → Out
looks rules wanted c d last t = if goes_on wanted t then (d t >>= λ u. turns rules.shell (suc rules.limits.steps) wanted c d u.status u) else Goes (with_status (loop_status rules.shell last t.status) t)

-- and after its body
abbrev pub looks_again : Rules → Bool → (State → Out) → (State → Out) → State → Out
looks_again rules wanted c d u = turns rules.shell (suc rules.limits.steps) wanted c d u.status u

-- after the condition of a branch
abbrev pub branch_does : Rules → Begin → ℕ → Branches → State → Out
branch_does rules begin zero (Elif c d b) = if_ok (chains rules begin d) (otherwise rules begin b)
branch_does rules begin zero (Else d) = Goes
branch_does rules begin zero Fi = Goes
branch_does rules begin (suc k) (Elif c d b) = branch_does rules begin k b
branch_does rules begin (suc k) (Else d) = Goes
branch_does rules begin (suc k) Fi = Goes

-- the parts of what a node stands for
abbrev pub list_in : Option Subtree → List Chain
list_in None = []
list_in (Some (OfChains cs)) = chain_list cs
list_in (Some (OfChain c)) = []
list_in (Some (OfCommand c)) = []

abbrev pub links_in : Option Subtree → List (Option Operator × Command)
links_in None = []
links_in (Some (OfChains cs)) = []
links_in (Some (OfChain c)) = chain_links c
links_in (Some (OfCommand c)) = []

-- something of a command
abbrev pub at_command : {X : Type 0} → X → (Command → X) → Option Subtree → X
at_command x f None = x
at_command x f (Some (OfChains cs)) = x
at_command x f (Some (OfChain c)) = x
at_command x f (Some (OfCommand c)) = f c

abbrev pub of_if : Rules → Begin → ℕ → Command → State → Out
of_if rules begin branch (Simple words) = Goes
of_if rules begin branch (Assign name value) = Goes
of_if rules begin branch (If c d b) = branch_does rules begin branch (Elif c d b)
of_if rules begin branch (For name words d) = Goes
of_if rules begin branch (While c d) = Goes
of_if rules begin branch (Until c d) = Goes

-- something of the two lists of a loop
abbrev pub of_loop : Rules → Begin → (Bool → (State → Out) → (State → Out) → State → Out) → Command → State → Out
of_loop rules begin f (Simple words) = Goes
of_loop rules begin f (Assign name value) = Goes
of_loop rules begin f (If c d b) = Goes
of_loop rules begin f (For name words d) = Goes
of_loop rules begin f (While c d) = f true (chains rules begin c) (chains rules begin d)
of_loop rules begin f (Until c d) = f false (chains rules begin c) (chains rules begin d)

abbrev pub of_for : Rules → Begin → List (List ℕ) → Command → State → Out
of_for rules begin fields (Simple words) = Goes
of_for rules begin fields (Assign name value) = Goes
of_for rules begin fields (If c d b) = Goes
of_for rules begin fields (For name words d) = bindings rules name (chains rules begin d) fields
of_for rules begin fields (While c d) = Goes
of_for rules begin fields (Until c d) = Goes

-- what a frame does after what is above it
abbrev pub frame_does : Rules → Begin → At → Frame → State → Out
frame_does rules begin at (frame.List node next) = run_chains rules begin (drop next (list_in (at node)))
frame_does rules begin at (frame.Chain node next) = run_links rules begin (drop next (links_in (at node)))
frame_does rules begin at (frame.Branch node branch) = at_command Goes (of_if rules begin branch) (at node)
frame_does rules begin at (frame.Condition node last) = at_command Goes (of_loop rules begin (λ wanted c d. looks rules wanted c d last)) (at node)
frame_does rules begin at (frame.Body node) = at_command Goes (of_loop rules begin (λ wanted c d. looks_again rules wanted c d)) (at node)
frame_does rules begin at (frame.Bindings node fields) = at_command Goes (of_for rules begin fields) (at node)
frame_does rules begin at (frame.Started names) = if_ok (in_turn begin (drop 1 names)) Goes

-- how many levels may still be opened when these scripts run, the innermost first
abbrev pub levels : Rules → List Parsed → ℕ
levels rules [] = 0
levels rules (p ∷ ps) = rules.limits.depth - length ps

abbrev pub begin_in : Rules → List Parsed → Begin
begin_in rules scripts = start rules (levels rules scripts)

abbrev pub at_in : List Parsed → At
at_in [] id = None
at_in (p ∷ ps) id = subtree_at p id

abbrev pub behind : List Parsed → List Parsed
behind [] = []
behind (p ∷ ps) = ps

-- the scripts that a frame belongs to
abbrev pub owners : Frame → List Parsed → List Parsed
owners (frame.List node next) scripts = scripts
owners (frame.Chain node next) scripts = scripts
owners (frame.Branch node branch) scripts = scripts
owners (frame.Condition node last) scripts = scripts
owners (frame.Body node) scripts = scripts
owners (frame.Bindings node fields) scripts = scripts
owners (frame.Started names) scripts = behind scripts

-- the first of the names that `run` has begun with; none after a text that answers a call
abbrev pub first_name : List (List ℕ) → Option (List ℕ)
first_name [] = None
first_name (name ∷ names) = Some name

-- the variable whose text a frame comes after, if any
abbrev pub variable_above : Frame → Option (List ℕ)
variable_above (frame.List node next) = None
variable_above (frame.Chain node next) = None
variable_above (frame.Branch node branch) = None
variable_above (frame.Condition node last) = None
variable_above (frame.Body node) = None
variable_above (frame.Bindings node fields) = None
variable_above (frame.Started names) = first_name names

-- the variable whose text runs above these frames, the innermost first
abbrev pub place_of : List Frame → Option (List ℕ)
place_of [] = None
place_of (f ∷ fs) = option_or (variable_above f) (place_of fs)

-- what a text is when it ends above the frame of these names
abbrev pub in_started : Shell → (names : List (List ℕ)) → Out → Out
in_started shell [] o = in_answer o
in_started shell (name ∷ names) o = in_text shell name o

-- what a frame makes of what is above it
abbrev pub enclosed : Shell → Frame → Out → Out
enclosed shell (frame.List node next) o = in_list o
enclosed shell (frame.Chain node next) o = o
enclosed shell (frame.Branch node branch) o = o
enclosed shell (frame.Condition node last) o = o
enclosed shell (frame.Body node) o = o
enclosed shell (frame.Bindings node fields) o = o
enclosed shell (frame.Started names) o = in_started shell names o

-- the status that it makes of that above it
abbrev pub text_status : Shell → (names : List (List ℕ)) → ℕ → ℕ
text_status shell [] status = status
text_status shell (name ∷ names) status = run_status shell status

abbrev pub passed_status : Shell → Frame → ℕ → ℕ
passed_status shell (frame.List node next) status = status
passed_status shell (frame.Chain node next) status = status
passed_status shell (frame.Branch node branch) status = status
passed_status shell (frame.Condition node last) status = status
passed_status shell (frame.Body node) status = status
passed_status shell (frame.Bindings node fields) status = status
passed_status shell (frame.Started names) status = text_status shell names status

-- what a part evaluates to, and then the frames, the innermost first
abbrev pub resume : Rules → List Parsed → List Frame → Out → Out
resume rules scripts [] o = o
resume rules scripts (f ∷ fs) o =
    resume rules (owners f scripts) fs
    (enclosed rules.shell f o >>= frame_does rules (begin_in rules (owners f scripts)) (at_in (owners f scripts)) f)

-- how many frames a part may need: three for each level, and for a list three, for a chain two, for a command one
abbrev pub room : Option Subtree → ℕ
room None = 0
room (Some (OfChains cs)) = 3 * depth_inside cs + 3
room (Some (OfChain c)) = 3 * depth_in_chain c + 2
room (Some (OfCommand c)) = 3 * depth c + 1

-- with its own
abbrev pub frame_room : At → Frame → ℕ
frame_room at (frame.List node next) = room (at node)
frame_room at (frame.Chain node next) = room (at node)
frame_room at (frame.Branch node branch) = room (at node)
frame_room at (frame.Condition node last) = room (at node)
frame_room at (frame.Body node) = room (at node)
frame_room at (frame.Bindings node fields) = room (at node)
frame_room at (frame.Started names) = 1

-- its node is one of the script
abbrev pub IsFrame : At → Frame → Type 0
IsFrame at (frame.List node next) = IsSome (at node)
IsFrame at (frame.Chain node next) = IsSome (at node)
IsFrame at (frame.Branch node branch) = IsSome (at node)
IsFrame at (frame.Condition node last) = IsSome (at node)
IsFrame at (frame.Body node) = IsSome (at node)
IsFrame at (frame.Bindings node fields) = IsSome (at node)
IsFrame at (frame.Started names) = Unit {0}

-- each frame belongs to a script that runs, and what may be above it has room
abbrev pub IsStack : List Parsed → List Frame → Type 0
IsStack scripts [] = Unit {0}
IsStack scripts (f ∷ fs) =
    (1 ≤ length (owners f scripts)) × IsFrame (at_in (owners f scripts)) f
    × (length fs + frame_room (at_in (owners f scripts)) f ≤ script_frames * length (owners f scripts))
    × IsStack (owners f scripts) fs

-- a node that is a step: a simple command, an assignment, a `for`
abbrev pub IsStep : Option Subtree → Type 0
IsStep None = ⊥
IsStep (Some (OfChains cs)) = ⊥
IsStep (Some (OfChain c)) = ⊥
IsStep (Some (OfCommand (Simple words))) = Unit {0}
IsStep (Some (OfCommand (Assign name value))) = Unit {0}
IsStep (Some (OfCommand (If c d b))) = ⊥
IsStep (Some (OfCommand (For name words d))) = Unit {0}
IsStep (Some (OfCommand (While c d))) = ⊥
IsStep (Some (OfCommand (Until c d))) = ⊥

-- the first part of a node, and the frame that is left for the others; no value if the node is a step
abbrev pub FirstPart : At → NodeId → Option (Frame × NodeId) → Type 0
FirstPart at id None = IsStep (at id)
FirstPart at id (Some part) =
    IsSome (at part.1) × ((scripts : List Parsed) → owners part.0 scripts ≡ scripts) × IsFrame at part.0
    × (room (at part.1) < room (at id)) × (frame_room at part.0 ≤ room (at id)) ×
    ((rules : Rules) (begin : Begin) → Counting rules begin → (s : State) → s.steps ≤ rules.limits.steps →
    subtree_does rules begin (at id) s ≡ enclosed rules.shell part.0 (subtree_does rules begin (at part.1) s) >>= frame_does rules begin at part.0)

-- going down from a node to a step in it leaves all as it is
abbrev pub Leads : Parsed → List Frame → List Frame → NodeId → NodeId → Type 0
Leads script old new id step =
    IsSome (subtree_at script step) ×
    ((scripts : List Parsed) → IsStack (script ∷ scripts) old → length old + room (subtree_at script id) ≤ script_frames * suc (length scripts) →
    IsStack (script ∷ scripts) new × (length new + room (subtree_at script step) ≤ script_frames * suc (length scripts))) ×
    ((rules : Rules) (scripts : List Parsed) (s : State) → s.steps ≤ rules.limits.steps →
    resume rules (script ∷ scripts) old (subtree_does rules (begin_in rules (script ∷ scripts)) (subtree_at script id) s) ≡
    resume rules (script ∷ scripts) new (subtree_does rules (begin_in rules (script ∷ scripts)) (subtree_at script step) s))

abbrev pub Descends : Parsed → List Frame → List Frame → NodeId → NodeId → Type 0
Descends script old new id step = IsStep (subtree_at script step) × Leads script old new id step
