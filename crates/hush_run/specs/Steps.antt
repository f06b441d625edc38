-- What a step of a run did. (How the code goes about it; what a run means is in Meaning.)
use Rattle.std.specs.Prelude.{◌≡◌, ℕ, suc, ◌<◌, ◌≤◌, ◌==◌, true, false, List, [], ◌∷◌, option_map, Option, Some, None, Result, Ok, Err}
use Rattle.env_session.specs.Session.{Held}
use Rattle.hush_words.specs.Words.{Atom}
use Rattle.hush_words.specs.Words.Atom.{Plain, Quoted, Value, Status, Mark}
use Rattle.hush_syntax.specs.Scripts.{Parsed, tree_of}
use Rattle.hush_commands.specs.declared.expansion.ExpansionFault.{ExpansionFault}
use Rattle.hush_commands.specs.declared.expansion.ExpansionFault.TheVariants as expansion
use Rattle.hush_commands.specs.declared.output.PrintFault.{PrintFault}
use Rattle.hush_commands.specs.declared.output.PrintFault.TheVariants as print
use Rattle.hush_commands.specs.declared.departure.Leaving.TheVariants.{Asks}
use Rattle.hush_commands.specs.Buffers.{Made, whole}
use Rattle.hush_commands.specs.Hardware.{hardware}
use Rattle.hush_commands.specs.Expansion.{expanded_value}
use Rattle.hush_run.specs.declared.ending.Ending.{Ending}
use Rattle.hush_run.specs.declared.ending.Ending.TheVariants as ending
use Rattle.hush_run.specs.Runs.{reason_of}
use Rattle.hush_run.specs.declared.progress.Progress.{Progress}
use Rattle.hush_run.specs.declared.progress.Given.{Given}
use Rattle.hush_run.specs.Meaning.{Rules, Reason, Begin, State, Out, Goes, Ends, known_in, has_variable, within, Variable, Answer, start, script, in_text, in_answer}

-- what the code holds of a run
abbrev pub state_of : Held → Progress → State
state_of held p = record { held = held; locals = p.locals; status = p.status; printed = p.output; steps = p.steps; departure = p.departure }

abbrev pub rules_of : Given → Rules
rules_of given = record { shell = given.shell; stand_ins = hardware given.board.now given.stand_ins.now; limits = given.limits }

-- a step has left the board by these fields, which ask what becomes of them
abbrev pub asked_at : List (List ℕ) → State → State
asked_at fields s = record s { departure = Some (record { leaving = Asks; words = fields }); steps = suc s.steps }

-- one step was counted
abbrev pub Counted : Rules → State → State → Type 0
Counted rules old new = (new.steps ≡ suc old.steps) × (suc old.steps ≤ rules.limits.steps)

-- what is meant, by the rules and by what a start does
abbrev pub Meant : Type 0
Meant = Rules → Begin → State → Out

-- a step wasn't done: the run has ended so, or nothing has changed
abbrev pub NotDone : Rules → Meant → State → State → Option Reason → Type 0
NotDone rules meant old new (Some e) = (begin : Begin) → meant rules begin old ≡ Ends e None new
NotDone rules meant old new None = new ≡ old

-- a step was done, and what is left of what is meant is this, under each limit on the steps that lets it count; or it
-- wasn't done
abbrev pub Did : {X : Type 0} → Rules → Meant → (X → Meant) → State → State → Result X Ending → Type 0
Did rules meant left old new (Ok x) =
    Counted rules old new
    × ((n : ℕ) (begin : Begin) → suc old.steps ≤ n → meant (within n rules) begin old ≡ left x (within n rules) begin new)
Did rules meant left old new (Err e) = NotDone rules meant old new (reason_of e)

-- one more step may be counted
abbrev pub MayStep : Rules → ℕ → Result (Unit {0}) Ending → Type 0
MayStep rules steps (Ok u) = steps < rules.limits.steps
MayStep rules steps (Err e) = (e ≡ ending.Steps) × (rules.limits.steps ≤ steps)

-- the fields that are wanted were made for a step that may be counted
abbrev pub FieldsAre : Rules → Option (List (List ℕ)) → State → Made → Result (Unit {0}) Ending → Type 0
FieldsAre rules wanted s made (Ok u) = (s.steps < rules.limits.steps) × (option_map whole wanted ≡ Some made)
FieldsAre rules wanted s made (Err ending.Steps) = rules.limits.steps ≤ s.steps
FieldsAre rules wanted s made (Err ending.Word) = (s.steps < rules.limits.steps) × (wanted ≡ None)
FieldsAre rules wanted s made (Err ending.Memory) = Unit {0}
FieldsAre rules wanted s made (Err ending.Finished) = ⊥
FieldsAre rules wanted s made (Err ending.Exited) = ⊥
FieldsAre rules wanted s made (Err ending.Depth) = ⊥
FieldsAre rules wanted s made (Err ending.Output) = ⊥

-- the value of an assignment, alone
abbrev pub value_of : Rules → List Atom → State → Option (List (List ℕ))
value_of rules word s = option_map (λ v. v ∷ []) (expanded_value (known_in s) rules.limits.word word)

-- nothing was started: the run has ended so; or memory was refused, but to no start beyond the limit on the depth, which
-- takes none
abbrev pub NotStarted : Rules → (levels : ℕ) → (name : List ℕ) → State → State → Option Reason → Type 0
NotStarted rules levels name old new (Some e) = start rules levels (Variable name) old ≡ Ends e None new
NotStarted rules levels name old new None = (new ≡ old) × (has_variable old name ≡ true → 0 < levels)

-- a start that failed, or this script is to be run from here, one level deeper; or nothing was started
abbrev pub Started : Rules → (levels : ℕ) → (name : List ℕ) → State → State → Result (Option Parsed) Ending → Type 0
Started rules levels name old new (Ok None) =
    Counted rules old new × ((new.status == 0) ≡ false)
    × ((n : ℕ) → suc old.steps ≤ n → start (within n rules) levels (Variable name) old ≡ Goes new)
Started rules levels name old new (Ok (Some p)) =
    Counted rules old new × (below : ℕ) × (levels ≡ suc below) ×
    ((n : ℕ) → suc old.steps ≤ n → start (within n rules) levels (Variable name) old ≡ in_text rules.shell name (script (within n rules) (start (within n rules) below) (tree_of p) new))
Started rules levels name old new (Err e) = NotStarted rules levels name old new (reason_of e)

-- the start of a text that answers a call: no script, or this one is to be run from here, one level deeper; or it
-- wasn't started
abbrev pub NotAnswered : Rules → (levels : ℕ) → (words : List (List ℕ)) → (text : List ℕ) → State → State → Option Reason → Type 0
NotAnswered rules levels words text old new (Some e) = start rules levels (Answer words text) old ≡ Ends e None new
NotAnswered rules levels words text old new None = new ≡ old

abbrev pub Answered : Rules → (levels : ℕ) → (words : List (List ℕ)) → (text : List ℕ) → State → State → Result (Option Parsed) Ending → Type 0
Answered rules levels words text old new (Ok None) =
    Counted rules old new × ((n : ℕ) → suc old.steps ≤ n → start (within n rules) levels (Answer words text) old ≡ Goes new)
Answered rules levels words text old new (Ok (Some p)) =
    Counted rules old new × (below : ℕ) × (levels ≡ suc below) ×
    ((n : ℕ) → suc old.steps ≤ n → start (within n rules) levels (Answer words text) old ≡ in_answer (script (within n rules) (start (within n rules) below) (tree_of p) new))
Answered rules levels words text old new (Err e) = NotAnswered rules levels words text old new (reason_of e)

-- the unquoted plain bytes of a word
abbrev pub plain_bytes : List Atom → List ℕ
plain_bytes [] = []
plain_bytes (Plain b ∷ atoms) = b ∷ plain_bytes atoms
plain_bytes (Quoted b ∷ atoms) = plain_bytes atoms
plain_bytes (Mark ∷ atoms) = plain_bytes atoms
plain_bytes (Value name quoted ∷ atoms) = plain_bytes atoms
plain_bytes (Status quoted ∷ atoms) = plain_bytes atoms

-- how a run ends at a fault
abbrev pub ending_of_expansion : ExpansionFault → Ending
ending_of_expansion expansion.Word = ending.Word
ending_of_expansion expansion.Memory = ending.Memory

abbrev pub ending_of_print : PrintFault → Ending
ending_of_print print.Output = ending.Output
ending_of_print print.Memory = ending.Memory
