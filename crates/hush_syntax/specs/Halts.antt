-- Where a text stops being a script: at the first token from the left that can't be where it is, or at the end (docs/scripts.md,
-- "Faults"). That is found without a tree: each token leads from one position to the next.
use Rattle.std.specs.Prelude.{ℕ, ◌==◌, ◌&&◌, Bool, true, false, not, List, [], ◌∷◌, length, codes, Option, Some, None, is_some, Result, Ok, Err, if◌then◌else◌}
use Rattle.std.specs.Option.{option_map}
use Rattle.hush_words.specs.Words.{Atom}
use Rattle.hush_words.specs.Forms.{is_plain, name_of, assignment_of}
use Rattle.hush_words.specs.Reading.{lexeme_end}
use Rattle.hush_words.specs.Tokens.{Token, has_no_nul}
use Rattle.hush_words.specs.Tokens.Token.{Word, Newline, Semicolon, AndIf, OrIf}
use Rattle.hush_words.specs.Faults.{Placed, placed_tokens, first_nul}
use Rattle.hush_syntax.specs.declared.keywords.Keyword.{Keyword}
use Rattle.hush_syntax.specs.declared.keywords.Keyword.TheVariants as keyword
use Rattle.hush_syntax.specs.declared.nodes.Bodies.{Bodies}
use Rattle.hush_syntax.specs.declared.positions.Ahead.{Ahead}
use Rattle.hush_syntax.specs.declared.positions.Ahead.TheVariants as ahead
use Rattle.hush_syntax.specs.declared.positions.Form.{Form}
use Rattle.hush_syntax.specs.declared.positions.Halt.{Halt}
use Rattle.hush_syntax.specs.declared.positions.Met.{Met}
use Rattle.hush_syntax.specs.declared.positions.Met.TheVariants as met
use Rattle.hush_syntax.specs.declared.positions.Stage.{Stage}
use Rattle.hush_syntax.specs.declared.positions.Stage.TheVariants as stage
use Rattle.hush_syntax.specs.declared.syntax_fault.FaultKind.{FaultKind}
use Rattle.hush_syntax.specs.declared.syntax_fault.FaultKind.TheVariants as fault
use Rattle.hush_syntax.specs.declared.syntax_fault.SyntaxFault.{SyntaxFault}
use Rattle.hush_syntax.specs.Faults.{end_fault, word_fault}
use Rattle.hush_syntax.specs.Grammar.{nest_limit}
use Rattle.hush_syntax.specs.Keywords.{keyword_of}
use Rattle.hush_syntax.specs.Reading.{is_closing, may_be_empty}

-- the forms that are open, innermost first, and what may come next
pub record Position : Type 0 where
  pub forms : List Form
  pub ahead : Ahead

abbrev pub position : List Form → Ahead → Position
position forms next = record { forms = forms; ahead = next }

abbrev pub start : Position
start = position [] ahead.Start

-- where a token leads, or why it can't be there
abbrev pub Step : Type 0
Step = Result Position FaultKind

abbrev pub unexpected : Step
unexpected = Err fault.Unexpected

-- ---- reserved words

abbrev pub form_at : Keyword → ℕ → Stage → Form
form_at k place s = record { keyword = k; place = place; stage = s }

-- behind a word that opens a form
abbrev pub opened : Keyword → ℕ → List Form → Position
opened keyword.If place forms = position (form_at keyword.If place stage.Condition ∷ forms) ahead.Start
opened keyword.For place forms = position (form_at keyword.For place stage.Head ∷ forms) ahead.Name
opened k place forms = position (form_at k place stage.Head ∷ forms) ahead.Start

-- behind a word that ends a list of this form
abbrev pub ended : Form → List Form → Stage → Keyword → Step
ended form forms stage.Condition keyword.Then = Ok (position (record form { stage = stage.Branch } ∷ forms) ahead.Then)
ended form forms stage.Branch keyword.Elif = Ok (position (record form { stage = stage.Condition } ∷ forms) ahead.Start)
ended form forms stage.Branch keyword.Else = Ok (position (record form { stage = stage.Otherwise } ∷ forms) ahead.Body)
ended form forms stage.Branch keyword.Fi = Ok (position forms ahead.Closed)
ended form forms stage.Otherwise keyword.Fi = Ok (position forms ahead.Closed)
ended form forms stage.Head keyword.Do = Ok (position (record form { stage = stage.Body } ∷ forms) ahead.Body)
ended form forms stage.Body keyword.Done = Ok (position forms ahead.Closed)
ended form forms s k = unexpected

-- the innermost form is the one whose list it ends
abbrev pub ended_in : List Form → Keyword → Step
ended_in [] k = unexpected
ended_in (form ∷ forms) k = ended form forms form.stage k

-- whether a list may end here
abbrev pub may_end : Bodies → Ahead → Keyword → Bool
may_end bodies ahead.More k = true
may_end bodies ahead.Body k = may_be_empty bodies
may_end bodies ahead.Then keyword.Elif = false
may_end bodies ahead.Then k = may_be_empty bodies
may_end bodies next k = false

abbrev pub reserved : Bodies → Position → ℕ → Keyword → Step
reserved bodies p place k =
    if is_closing k then (if may_end bodies p.ahead k then ended_in p.forms k else unexpected)
    else (if length p.forms == nest_limit then Err fault.Nest else Ok (opened k place p.forms))

-- ---- tokens

abbrev pub goes : Position → Ahead → Step
goes p next = Ok (position p.forms next)

-- a word where a command may begin
abbrev pub begun : Bodies → Position → ℕ → List Atom → Step
begun bodies p place w =
    elim (keyword_of w) [
      | None ↦ goes p (if is_some (assignment_of w) then ahead.Assigned else ahead.Words)
      | Some k ↦ reserved bodies p place k
    ]

abbrev pub on_word : Bodies → Position → Ahead → ℕ → List Atom → Step
on_word bodies p ahead.Words place w = goes p ahead.Words
on_word bodies p ahead.Assigned place w = Err fault.Assignment
on_word bodies p ahead.Closed place w = unexpected
on_word bodies p ahead.Name place w = if is_some (name_of w) then goes p ahead.In else unexpected
on_word bodies p ahead.In place w = if is_plain (codes "in") w then goes p ahead.List else unexpected
on_word bodies p ahead.List place w = goes p ahead.List
on_word bodies p ahead.Do place w = if is_plain (codes "do") w then ended_in p.forms keyword.Do else unexpected
on_word bodies p next place w = begun bodies p place w

abbrev pub on_separator : Position → Ahead → Step
on_separator p ahead.Start = goes p ahead.Start
on_separator p ahead.Then = goes p ahead.Body
on_separator p ahead.Body = goes p ahead.Body
on_separator p ahead.More = goes p ahead.More
on_separator p ahead.Words = goes p ahead.More
on_separator p ahead.Assigned = goes p ahead.More
on_separator p ahead.Closed = goes p ahead.More
on_separator p ahead.List = goes p ahead.Do
on_separator p ahead.Do = goes p ahead.Do
on_separator p next = unexpected

abbrev pub on_newline : Position → Ahead → Step
on_newline p ahead.Operand = goes p ahead.Operand
on_newline p next = on_separator p next

abbrev pub on_operator : Position → Ahead → Step
on_operator p ahead.Words = goes p ahead.Operand
on_operator p ahead.Assigned = goes p ahead.Operand
on_operator p ahead.Closed = goes p ahead.Operand
on_operator p next = unexpected

abbrev pub step_on : Bodies → Position → ℕ → Token → Step
step_on bodies p place (Word w) = on_word bodies p p.ahead place w
step_on bodies p place Newline = on_newline p p.ahead
step_on bodies p place Semicolon = on_separator p p.ahead
step_on bodies p place AndIf = on_operator p p.ahead
step_on bodies p place OrIf = on_operator p p.ahead

-- ---- texts

abbrev pub is_operand : Ahead → Bool
is_operand ahead.Operand = true
is_operand next = false

-- where tokens lead, and those that are left if the first of these can't be there
unfoldable pub run : Bodies → Position → List Placed → Position × List Placed
run bodies p [] = (p, [])
run bodies p (t ∷ ts) =
    elim (step_on bodies p t.0 t.1) [
      | Ok q ↦ run bodies q ts
      | Err kind ↦ (p, t ∷ ts)
    ]

-- a script may end here
abbrev pub is_whole : Position → Bool
is_whole p =
    elim p.forms [
      | [] ↦ not (is_operand p.ahead)
      | form ∷ forms ↦ false
    ]

abbrev pub met_by : Token → Met
met_by (Word w) =
    elim (keyword_of w) [
      | Some k ↦ met.Reserved k
      | None ↦ met.Word
    ]
met_by Newline = met.Newline
met_by Semicolon = met.Semicolon
met_by AndIf = met.AndIf
met_by OrIf = met.OrIf

abbrev pub innermost : List Form → Option Form
innermost [] = None
innermost (form ∷ forms) = Some form

abbrev pub behind_first : List Form → List Form
behind_first [] = []
behind_first (form ∷ forms) = forms

abbrev pub halt : SyntaxFault → Position → Met → Halt
halt f p m = record { fault = f; form = innermost p.forms; ahead = p.ahead; met = m }

abbrev pub fault_of : ℕ → FaultKind → SyntaxFault
fault_of place kind = record { place = place; kind = kind }

-- `end` is what is wrong where the tokens end, and `whole` whether the text ends there
abbrev pub halt_at : Bodies → (whole : Bool) → (end : SyntaxFault) → Position × List Placed → Option Halt
halt_at bodies whole end (p, []) = if is_whole p && whole then None else Some (halt end p met.End)
halt_at bodies whole end (p, (place, token) ∷ ts) =
    elim (step_on bodies p place token) [
      | Ok q ↦ None
      | Err kind ↦ Some (halt (fault_of place kind) p (met_by token))
    ]

-- the first byte 0 precedes all else
unfoldable pub halt_in : Bodies → List ℕ → Option Halt
halt_in bodies text =
    if has_no_nul text then halt_at bodies (length (lexeme_end text) == 0) (end_fault text) (run bodies start (placed_tokens text))
    else Some (halt (word_fault (first_nul text)) start met.End)

-- the first fault of a text
abbrev pub fault_in : Bodies → List ℕ → Option SyntaxFault
fault_in bodies text = option_map (λ (h : Halt). h.fault) (halt_in bodies text)
