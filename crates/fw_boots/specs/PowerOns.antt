-- What a power-on comes to (docs/boot.md).
use Rattle.std.specs.Prelude.{◌≡◌, ℕ, ◌+◌, ◌-◌, ◌%◌, ◌==◌, nat_lt, Bool, true, false, ◌&&◌, if◌then◌else◌, List, [], ◌∷◌, ◌++◌, map, length, take, drop, slice_get, Option, Some, None, unwrap_or, codes}
use Rattle.std.specs.List.{flat_map}
use Rattle.std.specs.Option.{option_map_or}
use Rattle.std.specs.Str.{bytes_eq}
use Rattle.std.specs.Fmt.{decimal}
use Rattle.std.specs.FinMap as vars
use Rattle.text_parts.specs.Numerals.{behind_0x}
use Rattle.text_parts.specs.declared.digits.Base.TheVariants.{Decimal, Hexadecimal}
use Rattle.envimg_core.specs.Environment.{Environment}
use Rattle.envvars_core.specs.declared.refusals.Refusal.{Refusal}
use Rattle.envvars_core.specs.declared.refusals.Refusal.TheVariants.{Full}
use Rattle.env_session.specs.Requests.{refusal_in}
use Rattle.env_session.specs.Session.{Held}
use Rattle.hush_calc.specs.Numbers.{front_number, modulus}
use Rattle.hush_syntax.specs.Grammar.{Chains}
use Rattle.hush_syntax.specs.Reading.{read_in}
use Rattle.hush_commands.specs.Hardware.{Hardware}
use Rattle.hush_commands.specs.declared.pattern.PatternWord.{PatternWord}
use Rattle.hush_commands.specs.declared.board_rules.Rule.{Rule}
use Rattle.hush_commands.specs.declared.board_rules.Reply.TheVariants.{Status}
use Rattle.hush_commands.specs.declared.departure.Departure.{Departure}
use Rattle.hush_commands.specs.declared.departure.Leaving.{Leaving}
use Rattle.hush_commands.specs.declared.departure.Leaving.TheVariants as leaving
use Rattle.hush_commands.specs.declared.shell.Shell.{Shell}
use Rattle.hush_commands.specs.Saves.{is_save}
use Rattle.fw_boots.specs.Cuts.{Cutting, Never, OfOne, OfTwo, limits_with, save_outcome, save_question}
use Rattle.hush_run.specs.Meaning.{Rules, Reason, bodies_of, meaning}
use Rattle.hush_run.specs.Meaning.Reason.{Finished, Exited, Steps, Depth, Word, Output}
use Rattle.hush_run.specs.Runs.{ending_name, ending_of}
use Rattle.boot_search.specs.Outcomes.{Given, Outcome, asks, ended}
use Rattle.boot_search.specs.declared.board.End.TheVariants.{Boots, Resets, GivesUp, Unknown}

-- `preboot` alone, if there is one
abbrev pub preboot_text : List ℕ
preboot_text = codes "if env exists preboot; then run preboot; else true; fi"

-- what a board runs when its power comes on: `preboot` if there is one, and `bootcmd` unless `bootdelay` is -1 then;
-- `bootcmd` begins with status 0, or with 1 if `preboot` left another. With the count it is `preboot` that comes first.
abbrev pub power_on_text : (counts : Bool) → List ℕ
power_on_text true = preboot_text
power_on_text false = codes "if env exists preboot; then run preboot; else true; fi; if test $? != 0 -a \"${bootdelay}\" -ne -1; then false || run bootcmd; elif test \"${bootdelay}\" -ne -1; then run bootcmd; fi"

-- ---- the count of boots

-- the number that a text begins with, as a board of 64 bits reads it: decimal digits, or hexadecimal ones after `0x`
abbrev pub number_in : List ℕ → ℕ
number_in text = option_map_or (front_number Hexadecimal) (behind_0x text) (front_number Decimal text) % modulus

-- that of a variable, 0 without one
abbrev pub number_of : Environment → (name : List ℕ) → ℕ
number_of env name = number_in (unwrap_or (vars.get env name) [])

-- whether power-ons are counted, by 32 bits of that number
abbrev pub is_counted : Environment → Bool
is_counted env = nat_lt 0 (number_of env (codes "upgrade_available") % 4294967296)

-- which one this is
abbrev pub boot_number : Environment → ℕ
boot_number env = if is_counted env then (number_of env (codes "bootcount") + 1) % modulus else 1

-- the count once that is written: where checks refuse it the old one stays, but a board's memory has room for each
abbrev pub count_by : Option Refusal → (new old : ℕ) → ℕ
count_by None new old = new
count_by (Some Full) new old = new
count_by (Some refusal) new old = old

abbrev pub count_left : Held → ℕ
count_left held =
    let new = boot_number held.now.env in
    count_by (refusal_in held (codes "bootcount") (Some (decimal new)) false) new (number_of held.now.env (codes "bootcount"))

-- whether that is one too many
abbrev pub is_beyond : (limit count : ℕ) → Bool
is_beyond limit count = nat_lt 0 limit && nat_lt limit count

abbrev pub goes_back : Held → Bool
goes_back held = is_counted held.now.env && is_beyond (number_of held.now.env (codes "bootlimit")) (count_left held)

-- what is run then
abbrev pub command_of : (goes_back : Bool) → List ℕ
command_of true = codes "altbootcmd; fi"
command_of false = codes "bootcmd; fi"

abbrev pub save_of : (is_counted : Bool) → List ℕ
save_of true = codes "; saveenv"
save_of false = []

-- it begins with status 0, or with 1 if `preboot` left another
abbrev pub start_of : (status : ℕ) → List ℕ
start_of status = codes "; if test \"${bootdelay}\" -ne -1; then " ++ (if status == 0 then codes "run " else codes "false || run ")

-- what a board with the count runs when its power comes on, by the session and the status that `preboot` leaves: that, the
-- count as commands, and `bootcmd` or `altbootcmd`
abbrev pub counted_text : Held → (status : ℕ) → List ℕ
counted_text held status =
    preboot_text ++ codes "; setenv bootcount " ++ decimal (boot_number held.now.env) ++ save_of (is_counted held.now.env)
    ++ start_of status ++ command_of (goes_back held)

-- the same where memory may have run out in `preboot`
abbrev pub IsCounted : Option Reason → Held → (status : ℕ) → List ℕ → Type 0
IsCounted None held status text = ⊥
IsCounted (Some reason) held status text = text ≡ counted_text held status

-- ---- questions

-- a question is the words of a call, a 0 byte after each
abbrev pub ended_word : List ℕ → List ℕ
ended_word word = word ++ 0 ∷ []

abbrev pub question_of : (words : List (List ℕ)) → List ℕ
question_of words = flat_map ended_word words

-- its words, from a byte on in a word that has begun so
abbrev pub ended_at : (word : List ℕ) → (byte : ℕ) → List (List ℕ)
ended_at word byte = if byte == 0 then word ∷ [] else []

abbrev pub word_at : (word : List ℕ) → (byte : ℕ) → List ℕ
word_at word byte = if byte == 0 then [] else word ++ byte ∷ []

unfoldable pub words_from : (word : List ℕ) → List ℕ → List (List ℕ)
words_from word [] = []
words_from word (b ∷ bs) = ended_at word b ++ words_from (word_at word b) bs

abbrev pub words_in : (question : List ℕ) → List (List ℕ)
words_in question = words_from [] question

-- the rule of an answer: it answers this call and no other
abbrev pub exact : List ℕ → PatternWord
exact word = record { text = word; begins = false }

abbrev pub answer_rule : Given → Rule
answer_rule g = record { pattern = map exact (words_in g.question); whole = true; reply = Status g.choice None }

abbrev pub answered : List Given → Hardware → Hardware
answered answers h = record h { rules = map answer_rule answers ++ h.rules }

-- what a run follows once these answers are given
abbrev pub with_answers : List Given → Rules → Rules
with_answers answers rules = record rules { stand_ins = answered answers rules.stand_ins }

-- ---- a power-on

-- whether a call that asks is a save that may be cut
abbrev pub is_asked_save : Cutting → Rules → (words : List (List ℕ)) → Bool
is_asked_save Never rules words = false
is_asked_save (OfOne bad) rules words = is_save rules.shell rules.stand_ins words
is_asked_save OfTwo rules words = is_save rules.shell rules.stand_ins words

-- by a call in this step that asks, with this stored
abbrev pub asked_by : Cutting → List Given → Rules → (step : ℕ) → (next : List ℕ) → (words : List (List ℕ)) → Outcome
asked_by cuts answers rules step next words =
    if is_asked_save cuts rules words then save_outcome cuts answers (save_question words step) next else asks (question_of words) 2

-- by a call that leaves the board; what it is if that asks
abbrev pub left_by : (asked : List (List ℕ) → Outcome) → Leaving → (words : List (List ℕ)) → (next : List ℕ) → Outcome
left_by asked leaving.Asks words next = asked words
left_by asked leaving.Boots words next = ended Boots (question_of words) next
left_by asked leaving.Resets words next = ended Resets (question_of words) next

abbrev pub stopped_at : Reason → (next : List ℕ) → Outcome
stopped_at reason next = ended Unknown (ended_word (ending_name (ending_of reason))) next

-- without one: at the end of the script, or at a limit
abbrev pub ended_at_end : Reason → (next : List ℕ) → Outcome
ended_at_end Finished next = ended GivesUp [] next
ended_at_end Exited next = ended GivesUp [] next
ended_at_end Steps next = stopped_at Steps next
ended_at_end Depth next = stopped_at Depth next
ended_at_end Word next = stopped_at Word next
ended_at_end Output next = stopped_at Output next

abbrev pub outcome_by : (asked : List (List ℕ) → Outcome) → Option Departure → Reason → (next : List ℕ) → Outcome
outcome_by asked None reason next = ended_at_end reason next
outcome_by asked (Some departure) reason next = left_by asked departure.leaving departure.words next

-- the run of a tree over a session of one copy, with these answers to what becomes of its saves: what the session holds then is
-- what is stored
abbrev pub with_limits : Cutting → List Given → Rules → Rules
with_limits cuts answers rules = record rules { limits = limits_with cuts answers rules.limits }

abbrev pub run_by : Cutting → List Given → (given : Rules) → Option Chains → Held → Outcome
run_by cuts answers given tree held =
    let run = meaning given tree held in
    outcome_by (asked_by cuts answers given run.1.steps run.1.held.now.first) run.1.departure run.0 run.1.held.now.first

abbrev pub run_over : Cutting → List Given → Rules → Option Chains → Held → Outcome
run_over cuts answers rules tree held = run_by cuts answers (with_limits cuts answers rules) tree held

-- the tree of a text
abbrev pub tree_in : Shell → List ℕ → Option Chains
tree_in shell text = unwrap_or (read_in (bodies_of shell) text) None

-- with the count, that of the text which `preboot` leads to
abbrev pub counted_tree : Rules → (preboot : Option Chains) → Held → Option Chains
counted_tree rules preboot held =
    let left = (meaning rules preboot held).1 in tree_in rules.shell (counted_text left.held left.status)

abbrev pub tree_by : (counts : Bool) → Rules → Option Chains → Held → Option Chains
tree_by false rules tree held = tree
tree_by true rules tree held = counted_tree rules tree held

-- a power-on by the tree of `power_on_text`
abbrev pub power_on : Cutting → List Given → (counts : Bool) → Rules → Option Chains → Held → Outcome
power_on cuts answers counts rules tree held = run_over cuts answers rules (tree_by counts rules tree held) held

-- the outcome that is answered for an ending of a run; none if memory ran out
abbrev pub IsFor : Option Reason → (Reason → Outcome) → Outcome → Type 0
IsFor None by outcome = ⊥
IsFor (Some reason) by outcome = outcome ≡ by reason

abbrev pub IsOutcome : Option Reason → (asked : List (List ℕ) → Outcome) → Option Departure → (next : List ℕ) → Outcome → Type 0
IsOutcome reason asked departure next outcome = IsFor reason (λ r. outcome_by asked departure r next) outcome

-- ---- what a system runs once it has booted

-- the question which script that is, 0 being none: no call's, since no 0 byte ends it
abbrev pub after_question : List ℕ
after_question = codes "after"

abbrev pub is_after : Given → Bool
is_after g = bytes_eq after_question g.question

-- the answers from that to it on, those before it, and those behind it
abbrev pub from_boot : List Given → List Given
from_boot [] = []
from_boot (g ∷ answers) = if is_after g then g ∷ answers else from_boot answers

abbrev pub before_boot : List Given → List Given
before_boot answers = take (length answers - length (from_boot answers)) answers

abbrev pub behind_boot : List Given → List Given
behind_boot answers = drop 1 (from_boot answers)

-- its answer, if it was given
abbrev pub chosen : List Given → Option ℕ
chosen [] = None
chosen (g ∷ answers) = if is_after g then Some g.choice else chosen answers

-- the script of that number
abbrev pub script_of : List (Option Chains) → ℕ → Option (Option Chains)
script_of scripts choice = if choice == 0 then None else slice_get scripts (choice - 1)

-- a power-on that booted by these words stays one, whatever its script comes to, but for a limit
abbrev pub still_boots : (by : List ℕ) → Outcome → Outcome
still_boots by (asks question choices) = asks question choices
still_boots by (ended Unknown limit next) = ended Unknown limit next
still_boots by (ended Boots words next) = ended Boots by next
still_boots by (ended Resets words next) = ended Boots by next
still_boots by (ended GivesUp words next) = ended Boots by next

-- a script, or none, is run over the session over what is stored; of its saves the answers behind that one speak
abbrev pub run_after : Cutting → List Given → Rules → (over : List ℕ → Held) → Option (Option Chains) → (by next : List ℕ) → Outcome
run_after cuts answers rules over None by next = ended Boots by next
run_after cuts answers rules over (Some tree) by next = still_boots by (run_over cuts (behind_boot answers) rules tree (over next))

-- once that was asked
abbrev pub after_boot : Cutting → List Given → Rules → (over : List ℕ → Held) → List (Option Chains) → Option ℕ → (by next : List ℕ) → Outcome
after_boot cuts answers rules over scripts None by next = asks after_question (length scripts + 1)
after_boot cuts answers rules over scripts (Some choice) by next = run_after cuts answers rules over (script_of scripts choice) by next

-- of a power-on that booted
abbrev pub if_boots : (List ℕ → List ℕ → Outcome) → Outcome → Outcome
if_boots f (asks question choices) = asks question choices
if_boots f (ended Boots by next) = f by next
if_boots f (ended Resets by next) = ended Resets by next
if_boots f (ended GivesUp by next) = ended GivesUp by next
if_boots f (ended Unknown by next) = ended Unknown by next

-- if there are such scripts
abbrev pub with_after : Cutting → Rules → (over : List ℕ → Held) → List (Option Chains) → List Given → Outcome → Outcome
with_after cuts rules over [] answers outcome = outcome
with_after cuts rules over (tree ∷ trees) answers outcome =
    if_boots (after_boot cuts answers rules over (tree ∷ trees) (chosen answers)) outcome
