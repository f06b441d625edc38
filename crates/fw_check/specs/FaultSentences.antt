-- What check says of a text that is no script (docs/check.md, "Syntax").
use Rattle.std.specs.Prelude.{ℕ, Bool, true, false, List, [], ◌++◌, codes, Option, Some, None, if◌then◌else◌}
use Rattle.std.specs.Fmt.{decimal}
use Rattle.fw_engines.specs.TextPlaces.{place_of}
use Rattle.hush_syntax.specs.Keywords.{spelling}
use Rattle.hush_syntax.specs.Reading.{is_closing}
use Rattle.hush_syntax.specs.declared.keywords.Keyword.{Keyword}
use Rattle.hush_syntax.specs.declared.keywords.Keyword.TheVariants as keyword
use Rattle.hush_syntax.specs.declared.positions.Ahead.{Ahead}
use Rattle.hush_syntax.specs.declared.positions.Ahead.TheVariants as ahead
use Rattle.hush_syntax.specs.declared.positions.Form.{Form}
use Rattle.hush_syntax.specs.declared.positions.Halt.{Halt}
use Rattle.hush_syntax.specs.declared.positions.Met.{Met}
use Rattle.hush_syntax.specs.declared.positions.Met.TheVariants as met
use Rattle.hush_syntax.specs.declared.positions.Stage.{Stage}
use Rattle.hush_syntax.specs.declared.positions.Stage.TheVariants as stage
use Rattle.hush_syntax.specs.declared.syntax_fault.FaultKind.{FaultKind}
use Rattle.hush_syntax.specs.declared.syntax_fault.FaultKind.TheVariants as fault
use Rattle.fw_check.specs.declared.fault_sentences.Lack.{Lack}
use Rattle.fw_check.specs.declared.fault_sentences.Lack.TheVariants as lack

-- ---- what is missing

-- the word that a list of a form waits for; `elif` and `else` may come in its place
abbrev pub last_word : Stage → Keyword
last_word stage.Condition = keyword.Then
last_word stage.Branch = keyword.Fi
last_word stage.Otherwise = keyword.Fi
last_word stage.Head = keyword.Do
last_word stage.Body = keyword.Done

abbrev pub word_ends : Stage → Keyword → Bool
word_ends stage.Condition keyword.Then = true
word_ends stage.Branch keyword.Elif = true
word_ends stage.Branch keyword.Else = true
word_ends stage.Branch keyword.Fi = true
word_ends stage.Otherwise keyword.Fi = true
word_ends stage.Head keyword.Do = true
word_ends stage.Body keyword.Done = true
word_ends s k = false

-- what came ends such a list
abbrev pub ends_list : Stage → Met → Bool
ends_list s (met.Reserved k) = word_ends s k
ends_list s m = false

abbrev pub is_operator : Met → Bool
is_operator met.AndIf = true
is_operator met.OrIf = true
is_operator m = false

-- between commands, or else this
abbrev pub lack_between : Ahead → Met → (instead : Lack) → Lack
lack_between ahead.Closed met.End instead = instead
lack_between ahead.Closed m instead = lack.Separator
lack_between ahead.Operand m instead = lack.Command
lack_between next m instead = if is_operator m then lack.Command else instead

-- outside of all forms
abbrev pub lack_outside : Ahead → Met → Lack
lack_outside next (met.Reserved k) = if is_closing k then lack.Opening k else lack_between next (met.Reserved k) lack.Other
lack_outside next m = lack_between next m lack.Other

-- in a form, by the list of it that is open
abbrev pub lack_in_list : Form → Ahead → Met → Lack
lack_in_list form next m = lack_between next m (lack.Word (last_word form.stage) form)

-- where that list begins
abbrev pub lack_at_start : Form → Ahead → Met → Lack
lack_at_start form next m = if ends_list form.stage m then lack.Command else lack_in_list form next m

abbrev pub lack_in : Form → Ahead → Met → Lack
lack_in form ahead.Name m = lack.Name form
lack_in form ahead.In m = lack.In form
lack_in form ahead.List m = lack.Word keyword.Do form
lack_in form ahead.Do m = lack.Word keyword.Do form
lack_in form ahead.Start m = lack_at_start form ahead.Start m
lack_in form ahead.Then m = lack_at_start form ahead.Then m
lack_in form ahead.Body m = lack_at_start form ahead.Body m
lack_in form next m = lack_in_list form next m

abbrev pub lack_of : Halt → Lack
lack_of h =
    elim h.form [
      | None ↦ lack_outside h.ahead h.met
      | Some form ↦ lack_in form h.ahead h.met
    ]

-- ---- how that is told

abbrev pub token_text : Met → List ℕ
token_text (met.Reserved k) = codes "`" ++ spelling k ++ codes "`"
token_text met.AndIf = codes "`&&`"
token_text met.OrIf = codes "`||`"
token_text met.Semicolon = codes "`;`"
token_text met.Newline = codes "the end of the line"
token_text met.Word = codes "this word"
token_text met.End = codes "the end of the text"

-- `text` is the script's
abbrev pub form_text : (text : List ℕ) → Form → List ℕ
form_text text form = codes "the `" ++ spelling form.keyword ++ codes "` in line " ++ decimal (place_of text form.place).line ++ codes " of the script"

-- what has to come before a reserved word that ends a list
abbrev pub opening_text : Keyword → List ℕ
opening_text keyword.Then = codes "`if`"
opening_text keyword.Elif = codes "`if`"
opening_text keyword.Else = codes "`if`"
opening_text keyword.Fi = codes "`if`"
opening_text keyword.Do = codes "`for`, `while` or `until`"
opening_text keyword.Done = codes "`do`"
opening_text k = []

abbrev pub lack_text : (text : List ℕ) → Met → Lack → List ℕ
lack_text text m (lack.Name form) = codes "no name for " ++ form_text text form
lack_text text m (lack.In form) = codes "no `in` for " ++ form_text text form
lack_text text m (lack.Word k form) = codes "no `" ++ spelling k ++ codes "` for " ++ form_text text form
lack_text text m (lack.Opening k) = codes "`" ++ spelling k ++ codes "` without " ++ opening_text k
lack_text text m lack.Separator = codes "no `;` before " ++ token_text m
lack_text text m lack.Command = codes "no command before " ++ token_text m
lack_text text m lack.Other = codes "not expected here"

-- ---- the sentence

-- what is told of a kind, if nothing is missing
abbrev pub fault_sentence : FaultKind → List ℕ
fault_sentence fault.Quote = codes "a quote is not closed (Quote)"
fault_sentence fault.Backslash = codes "the text ends with a backslash (Backslash)"
fault_sentence fault.Substitution = codes "not a substitution of this shell: ${NAME}, $NAME or $? (Substitution)"
fault_sentence fault.Operator = codes "a single & or |, which this shell does not have (Operator)"
fault_sentence fault.Nest = codes "more than 64 commands inside one another (Nest)"
fault_sentence fault.Assignment = codes "a word after an assignment (Assignment)"
fault_sentence fault.Nul = codes "a byte 0 (Nul)"
fault_sentence fault.Memory = codes "out of memory (Memory)"
fault_sentence fault.Unexpected = []
fault_sentence fault.Missing = []

abbrev pub kind_sentence : FaultKind → (lacking : List ℕ) → List ℕ
kind_sentence fault.Unexpected lacking = lacking ++ codes " (Unexpected)"
kind_sentence fault.Missing lacking = lacking ++ codes " (Missing)"
kind_sentence k lacking = fault_sentence k

abbrev pub halt_sentence : (text : List ℕ) → Halt → List ℕ
halt_sentence text h = kind_sentence h.fault.kind (lack_text text h.met (lack_of h))
