-- What a script evaluates to (docs/runs.md, "Meaning").
use Rattle.std.specs.Prelude.{ℕ, zero, suc, ◌==◌, nat_lt, nat_le, Bool, true, false, not, ◌&&◌, if◌then◌else◌, List, [], ◌∷◌, ◌++◌, length, Option, Some, None, is_some, option_map, unwrap_or, get_or, codes}
use Rattle.std.specs.List.{list_any}
use Rattle.std.specs.FinMap as map
use Rattle.envimg_core.specs.Environment.{Environment}
use Rattle.env_session.specs.Session.{Held}
use Rattle.hush_words.specs.Words.{Atom}
use Rattle.hush_words.specs.Words.Atom.{Plain, Quoted, Value, Status, Mark}
use Rattle.hush_syntax.specs.declared.nodes.Operator.{Operator}
use Rattle.hush_syntax.specs.declared.nodes.Operator.TheVariants.{And, Or}
use Rattle.hush_syntax.specs.Grammar.{Command, Simple, Assign, If, For, While, Until, Branches, Elif, Else, Fi, Chain, First, Links, End, Link, Chains, Last, More}
use Rattle.hush_syntax.specs.declared.nodes.Bodies.{Bodies}
use Rattle.hush_syntax.specs.declared.nodes.Bodies.TheVariants.{Full, MayBeEmpty}
use Rattle.hush_syntax.specs.Reading.{read_in}
use Rattle.hush_commands.specs.declared.messages.Message.{Message}
use Rattle.hush_commands.specs.declared.messages.Message.TheVariants.{NotDefined, UnknownCommand, IsVariable, NoScript}
use Rattle.hush_commands.specs.declared.departure.Departure.{Departure}
use Rattle.hush_commands.specs.declared.departure.Leaving.TheVariants.{Asks}
use Rattle.hush_commands.specs.declared.follow.Follow.{Follow}
use Rattle.hush_commands.specs.declared.follow.Follow.TheVariants as follow
use Rattle.run_limits.specs.Limits.{Bounds}
use Rattle.hush_commands.specs.Hardware.{Hardware, with_words}
use Rattle.hush_commands.specs.declared.shell.Shell.{Shell}
use Rattle.hush_commands.specs.declared.shell.Shell.TheVariants.{Strict, Board}
use Rattle.hush_commands.specs.Shells.{kept_status, list_words, list_by}
use Rattle.hush_commands.specs.Messages.{text_of}
use Rattle.hush_commands.specs.Output.{Printed, printed, answer}
use Rattle.hush_commands.specs.Expansion.{Known, expanded, expanded_after, expanded_value}
use Rattle.hush_commands.specs.Carrying.{Done, done_of, deletion_of}
use Rattle.hush_commands.specs.Following.{follow_of}
use Rattle.hush_commands.specs.Saves.{is_save}

-- what a run is given: whose rules it follows, what stands in for hardware, and its limits
pub record Rules : Type 0 where
  pub shell : Shell
  pub stand_ins : Hardware
  pub limits : Bounds

-- what a run changes: the session, the local variables, the status, the text, the steps that are counted, and the call with
-- which it has left the board
pub record State : Type 0 where
  pub held : Held
  pub locals : Environment
  pub status : ℕ
  pub printed : Printed
  pub steps : ℕ
  pub departure : Option Departure

-- why a run ends, if memory isn't refused: at the end of its script, by an `exit` or a call that leaves the board, or at a limit
pub data Reason : Type 0 where
  Finished : Reason
  Exited : Reason
  Steps : Reason
  Depth : Reason
  Word : Reason
  Output : Reason

-- what a part of a script evaluates to: it goes on from a state, or an `exit` leaves its text there, with this status for
-- the innermost list that it is still to leave, or the run has ended there; its place is the name of the variable in whose
-- text that was, if this part started one
pub data Out : Type 0 where
  Goes : State → Out
  Leaves : (own : ℕ) → State → Out
  Ends : Reason → (place : Option (List ℕ)) → State → Out

-- first this, and if it goes on, that
infixl 10 ◌>>=◌
abbrev pub ◌>>=◌ : Out → (State → Out) → Out
(Goes s) >>= f = f s
(Leaves own s) >>= f = Leaves own s
(Ends e place s) >>= f = Ends e place s

infixr 12 ◌then◌
abbrev pub ◌then◌ : (State → Out) → (State → Out) → State → Out
p then q = λ s. p s >>= q

-- what a step ends as: it is done, or it is done and ends the run, or the run stops and it isn't done
pub data Effect : Type 0 where
  Does : State → Effect
  Exits : State → Effect
  Stops : Reason → Effect

abbrev pub with_status : ℕ → State → State
with_status n s = record s { status = n }

-- a step that is done counts one
abbrev pub done : State → Effect → Out
done s (Does t) = Goes (record t { steps = suc s.steps })
done s (Exits t) = Ends Exited None (record t { steps = suc s.steps })
done s (Stops reason) = Ends reason None s

-- the limit on steps comes before all else in a step
unfoldable pub step : Rules → (State → Effect) → State → Out
step rules effect s = if nat_lt s.steps rules.limits.steps then done s (effect s) else Ends Steps None s

-- a command is carried out if its text fits
abbrev pub carries : Done → State → Effect
carries d s =
    if nat_lt s.printed.limit (length (s.printed.text ++ d.0.text))
    then Stops Output
    else Does (record s { held = d.1; status = d.0.status; printed = printed (s.printed.text ++ d.0.text) s.printed.limit })

-- a message about a name, and status 1
abbrev pub fails : Message → List ℕ → State → Effect
fails message name s = carries (answer 1 (text_of message name), s.held) s

-- what words are expanded with
abbrev pub known_in : State → Known
known_in s = record { env = s.held.now.env; locals = s.locals; status = s.status }

-- the fields of words; no value if one of these is larger than the limit
abbrev pub fields_of : Rules → List (List Atom) → State → Option (List (List ℕ))
fields_of rules words s = expanded (known_in s) rules.limits.word words

-- the fields of a word with these bytes before it
abbrev pub fields_after : Rules → (front : List ℕ) → List Atom → State → Option (List (List ℕ))
fields_after rules front word s = expanded_after (known_in s) rules.limits.word front word

-- whether the environment has a variable of this name
abbrev pub has_variable : State → List ℕ → Bool
has_variable s name = is_some (map.get s.held.now.env name)

-- a call that leaves the board ends the run, and so does an `exit` of the strict shell
abbrev pub exiting : Follow → Effect → Effect
exiting follow.Next e = e
exiting follow.Leaves e = e
exiting (follow.End departure) (Does t) = Exits (record t { departure = departure })
exiting (follow.End departure) (Exits t) = Exits t
exiting (follow.End departure) (Stops reason) = Stops reason
exiting (follow.Starts names) e = e
exiting (follow.Deletes force names) e = e
exiting (follow.Answers words text) e = e

-- the step of a simple command with these fields
unfoldable pub effect : Shell → Hardware → List (List ℕ) → State → Effect
effect shell stand_ins fields s = exiting (follow_of shell stand_ins fields) (carries (done_of shell stand_ins fields s.status s.held) s)

-- whether a save is asked for, in place of being done, when this many steps are counted
abbrev pub asks_from : Option ℕ → (steps : ℕ) → Bool
asks_from None steps = false
asks_from (Some from) steps = nat_le from steps

abbrev pub asks_save : Rules → List (List ℕ) → State → Bool
asks_save rules fields s = asks_from rules.limits.saves s.steps && is_save rules.shell rules.stand_ins fields

-- the board is left by these fields, which ask what becomes of them: nothing else has changed
abbrev pub asked : List (List ℕ) → State → Effect
asked fields s = Exits (record s { departure = Some (record { leaving = Asks; words = fields }) })

-- the step of a simple command with these fields, unless it is a save that is asked for
abbrev pub effect_in : Rules → List (List ℕ) → State → Effect
effect_in rules fields s = if asks_save rules fields s then asked fields s else effect rules.shell rules.stand_ins fields s

-- whether an assignment to a name is refused, since the environment has it; on a board it makes a local variable, which is
-- hidden as long as the environment has the name
abbrev pub refuses : Shell → State → List ℕ → Bool
refuses Strict s name = has_variable s name
refuses Board s name = false

-- whether an assignment to a name calls a command; on a board one does if its name begins with `_`
abbrev pub is_call : Shell → List ℕ → Bool
is_call Strict name = false
is_call Board name = get_or name 0 0 == 95

-- the step of an assignment that calls a command, of which none has its word as its name, up to the first blank
abbrev pub called : Rules → List ℕ → List Atom → State → Effect
called rules name value s =
    elim (fields_after rules (name ++ codes "=") value s) [
      | None ↦ Stops Word
      | Some fields ↦ fails UnknownCommand (get_or fields 0 []) s
    ]

-- the step of an assignment
abbrev pub assigned_to : Shell → List ℕ → Option (List ℕ) → State → Effect
assigned_to shell name None s = Stops Word
assigned_to shell name (Some value) s =
    if refuses shell s name then fails IsVariable name s else Does (record s { locals = map.insert s.locals name value; status = 0 })

abbrev pub assigned : Rules → List ℕ → List Atom → State → Effect
assigned rules name value s =
    if is_call rules.shell name
    then called rules name value s
    else assigned_to rules.shell name (expanded_value (known_in s) rules.limits.word value) s

-- this if the status is 0, and else that
abbrev pub if_ok : (State → Out) → (State → Out) → State → Out
if_ok p q s = if s.status == 0 then p s else q s

abbrev pub joins : Operator → Bool → Bool
joins And ok = ok
joins Or ok = not ok

-- the commands of a chain after one that isn't run; a board runs none of these
abbrev pub leaves_chain : Shell → Bool
leaves_chain Strict = false
leaves_chain Board = true

abbrev pub after_skip : Shell → (State → Out) → State → Out
after_skip shell rest s = if leaves_chain shell then Goes s else rest s

-- a while goes on if the status is 0, an until if it isn't
abbrev pub goes_on : (wanted : Bool) → State → Bool
goes_on true s = s.status == 0
goes_on false s = not (s.status == 0)

-- the status of a loop: that of the last body, 0 if there was none; on a board that of the last condition
abbrev pub loop_status : Shell → (last status : ℕ) → ℕ
loop_status Strict last status = last
loop_status Board last status = status

-- turns of a loop as long as the condition's status is 0, or isn't. Each counts a step, so that there are never more
-- than the limit, and of one more `turns zero` is never reached
unfoldable pub turns : Shell → ℕ → Bool → (State → Out) → (State → Out) → ℕ → State → Out
turns shell zero wanted condition body last s = Ends Steps None s
turns shell (suc n) wanted condition body last s =
    condition s >>= λ t.
    if goes_on wanted t then (body t >>= λ u. turns shell n wanted condition body u.status u) else Goes (with_status (loop_status shell last t.status) t)

-- what is started: a variable by `run`, or the text that answers a call of these words
pub data Starting : Type 0 where
  Variable : (name : List ℕ) → Starting
  Answer : (words : List (List ℕ)) → (text : List ℕ) → Starting

-- what a start does
abbrev pub Begin : Type 0
Begin = Starting → State → Out

-- variables one after the other, as long as the status is 0
abbrev pub in_turn : Begin → List (List ℕ) → State → Out
in_turn start [] = Goes
in_turn start (name ∷ names) = start (Variable name) then if_ok (in_turn start names) Goes

-- the names of `env delete`, a step each; whether an earlier one failed
abbrev pub deletions : Rules → (force failed : Bool) → List (List ℕ) → State → Out
deletions rules force failed [] = Goes
deletions rules force failed (name ∷ names) =
    λ s. step rules (λ t. carries (deletion_of t.held name force failed) t) s
    >>= λ t. deletions rules force (not (t.status == 0)) names t

-- what comes after a simple command
abbrev pub follows : Rules → Begin → Follow → State → Out
follows rules start follow.Next = Goes
follows rules start (follow.End departure) = Goes
follows rules start follow.Leaves = λ s. Leaves s.status s
follows rules start (follow.Starts names) = in_turn start names
follows rules start (follow.Deletes force names) = deletions rules force false names
follows rules start (follow.Answers words text) = start (Answer words text)

-- whether a word has something that is substituted
abbrev pub is_value : Atom → Bool
is_value (Plain b) = false
is_value (Quoted b) = false
is_value Mark = false
is_value (Value name quoted) = true
is_value (Status quoted) = true

abbrev pub have_value : List (List Atom) → Bool
have_value words = list_any (list_any is_value) words

-- an `exit` of a board leaves nothing if a word of it has a value
abbrev pub leave_of : (has_value : Bool) → Follow
leave_of true = follow.Next
leave_of false = follow.Leaves

abbrev pub followed : (has_value : Bool) → Follow → Follow
followed has_value follow.Next = follow.Next
followed has_value (follow.End departure) = follow.End departure
followed has_value follow.Leaves = leave_of has_value
followed has_value (follow.Starts names) = follow.Starts names
followed has_value (follow.Deletes force names) = follow.Deletes force names
followed has_value (follow.Answers words text) = follow.Answers words text

-- a simple command with these fields, and what comes after it
abbrev pub simple : Rules → Begin → (has_value : Bool) → Option (List (List ℕ)) → State → Out
simple rules start has_value None s = step rules (λ t. Stops Word) s
simple rules start has_value (Some fields) s =
    step rules (effect_in rules fields) s
    >>= follows rules start (followed has_value (follow_of rules.shell rules.stand_ins fields))

-- the status after a binding
abbrev pub bound_status : Shell → ℕ → ℕ
bound_status Strict status = status
bound_status Board status = 0

-- the step of a binding, which may call a command too
abbrev pub bound_to : Shell → List ℕ → (field : List ℕ) → State → Effect
bound_to shell name field s =
    if is_call shell name
    then fails UnknownCommand (name ++ codes "=" ++ field) s
    else Does (record s { locals = map.insert s.locals name field; status = bound_status shell s.status })

-- each field is bound to the name, and the body run
abbrev pub bindings : Rules → List ℕ → (State → Out) → List (List ℕ) → State → Out
bindings rules name body [] s = Goes s
bindings rules name body (f ∷ fs) s =
    if refuses rules.shell s name
    then step rules (fails IsVariable name) s
    else (step rules (bound_to rules.shell name f) s >>= body >>= bindings rules name body fs)

-- the head of a for and its bindings
abbrev pub for : Rules → List ℕ → Option (List (List ℕ)) → (State → Out) → State → Out
for rules name None body = step rules (λ s. Stops Word)
for rules name (Some []) body = step rules Does then λ s. Goes (with_status 0 s)
for rules name (Some (f ∷ fs)) body = step rules Does then bindings rules name body (f ∷ fs)

-- the list of a `for`
abbrev pub list_words_of : Rules → List (List Atom) → State → Option (List (List ℕ))
list_words_of rules words s = list_words rules.shell (known_in s) rules.limits.word words

abbrev pub list_of : Rules → List (List Atom) → State → Option (List (List ℕ))
list_of rules words s = option_map (list_by rules.shell) (list_words_of rules words s)

-- an `exit` leaves a list: its status is that of the first that it leaves, and those around it have status 0
abbrev pub in_list : Out → Out
in_list (Goes s) = Goes s
in_list (Leaves own s) = Leaves 0 (with_status own s)
in_list (Ends e place s) = Ends e place s

-- what the parts of a tree do, given what a start by run does
module _ (rules : Rules) (start : Begin) where
  abbrev mutual
    pub command : Command → State → Out
    command (Simple words) = λ s. simple rules start (have_value words) (fields_of rules words s) s
    command (Assign name value) = step rules (assigned rules name value)
    command (If c d branches) = chains c then if_ok (chains d) (otherwise branches)
    command (For name words d) = λ s. for rules name (list_of rules words s) (chains d) s
    command (While c d) = turns rules.shell (suc rules.limits.steps) true (chains c) (chains d) 0
    command (Until c d) = turns rules.shell (suc rules.limits.steps) false (chains c) (chains d) 0

    pub otherwise : Branches → State → Out
    otherwise (Elif c d branches) = chains c then if_ok (chains d) (otherwise branches)
    otherwise (Else d) = chains d
    otherwise Fi = λ s. Goes (with_status (kept_status rules.shell s.status) s)

    pub chain : Chain → State → Out
    chain (First c links) = command c then linked links

    pub linked : Links → State → Out
    linked End = Goes
    linked (Link operator c links) = λ s. if joins operator (s.status == 0) then (command c s >>= linked links) else after_skip rules.shell (linked links) s

    pub chains : Chains → State → Out
    chains (Last c) = λ s. in_list (chain c s)
    chains (More c cs) = λ s. in_list (chain c s) >>= chains cs

  abbrev pub script : Option Chains → State → Out
  script None = Goes
  script (Some cs) = chains cs

-- a start of a variable by run: if the environment has it, its text is entered
abbrev pub looked_up : Rules → (List ℕ → State → Out) → List ℕ → State → Out
looked_up rules enter name s =
    elim (map.get s.held.now.env name) [
      | None ↦ step rules (fails NotDefined name) s
      | Some text ↦ enter text s
    ]

-- the status that `run` makes of a text's
abbrev pub run_status : Shell → ℕ → ℕ
run_status Strict status = status
run_status Board status = if status == 0 then 0 else 1

-- the text of this variable: an `exit` of a board ends it alone; an end in it is placed there, if not in a text that was
-- started inside it
abbrev pub in_text : Shell → List ℕ → Out → Out
in_text shell name (Goes s) = Goes (with_status (run_status shell s.status) s)
in_text shell name (Leaves own s) = Goes s
in_text shell name (Ends e place s) = Ends e (Some (unwrap_or place name)) s

-- the text that answers a call: its status is the command's
abbrev pub in_answer : Out → Out
in_answer (Goes s) = Goes s
in_answer (Leaves own s) = Goes s
in_answer (Ends e place s) = Ends e place s

-- the status at the start of a text
abbrev pub started_status : Shell → Option Chains → ℕ → ℕ
started_status shell None status = 0
started_status shell (Some cs) status = kept_status shell status

-- if a text spells a tree, the tree is run
abbrev pub entered : Rules → (Option Chains → State → Out) → List ℕ → Option (Option Chains) → State → Out
entered rules run name None = step rules (fails NoScript name)
entered rules run name (Some tree) = step rules (λ s. Does (with_status (started_status rules.shell tree s.status) s)) then λ s. in_text rules.shell name (run tree s)

-- the same of the text that answers a call: in the same step the call's words become local variables. Its end is placed
-- where the call was
abbrev pub answered : Rules → (Option Chains → State → Out) → (words : List (List ℕ)) → Option (Option Chains) → State → Out
answered rules run words None = step rules (fails NoScript (get_or words 0 []))
answered rules run words (Some tree) =
    step rules (λ s. Does (record s { locals = with_words s.locals words; status = started_status rules.shell tree s.status })) then λ s. in_answer (run tree s)

-- which bodies a text may have
abbrev pub bodies_of : Shell → Bodies
bodies_of Strict = Full
bodies_of Board = MayBeEmpty

-- a start when this many levels may still be opened
unfoldable pub start : Rules → (levels : ℕ) → Begin
start rules zero (Variable name) = looked_up rules (λ text. step rules (λ s. Stops Depth)) name
start rules zero (Answer words text) = step rules (λ s. Stops Depth)
start rules (suc levels) (Variable name) = looked_up rules (λ text. entered rules (script rules (start rules levels)) name (read_in (bodies_of rules.shell) text)) name
start rules (suc levels) (Answer words text) = answered rules (script rules (start rules levels)) words (read_in (bodies_of rules.shell) text)

-- how a run ends: a script that goes on to its end is finished
abbrev pub ended : Out → Reason × State
ended (Goes s) = (Finished, s)
ended (Leaves own s) = (Exited, s)
ended (Ends e place s) = (e, s)

-- the variable in whose text a run ended; no value at the end of a script, or in the script that was given
abbrev pub place_in : Out → Option (List ℕ)
place_in (Goes s) = None
place_in (Leaves own s) = None
place_in (Ends e place s) = place

-- the run of a tree from a state
abbrev pub run_of : Rules → Option Chains → State → Out
run_of rules tree s = script rules (start rules rules.limits.depth) tree s

abbrev pub run_from : Rules → Option Chains → State → Reason × State
run_from rules tree s = ended (run_of rules tree s)

-- a run begins with status 0, no local variables and no text
abbrev pub first_state : Rules → Held → State
first_state rules held = record { held = held; locals = map.empty; status = 0; printed = printed [] rules.limits.output; steps = 0; departure = None }

unfoldable pub meaning : Rules → Option Chains → Held → Reason × State
meaning rules tree held = run_from rules tree (first_state rules held)

unfoldable pub place : Rules → Option Chains → Held → Option (List ℕ)
place rules tree held = place_in (run_of rules tree (first_state rules held))

-- the same rules with another limit on the steps
abbrev pub within : ℕ → Rules → Rules
within n rules = record rules { limits = record rules.limits { steps = n } }
