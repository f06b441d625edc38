-- Board files (docs/runs.md, "Board files").
use Rattle.std.specs.Prelude.{◌≡◌, ◌≢◌, ◌&&◌, not, Bool, ℕ, nat_le, if◌then◌else◌, List, [], ◌∷◌, ◌++◌, codes, length, Some, None, Result, Ok, Err}
use Rattle.std.specs.Str.Lines.{strip_carriage_return}
use Rattle.text_parts.specs.Lines.{Line as NumberedLine, numbered_lines}
use Rattle.hush_commands.specs.declared.board_rules.Rule.{Rule}
use Rattle.board_file.specs.declared.board_fault.BoardFault.{BoardFault}
use Rattle.board_file.specs.declared.board_fault.LineFault.{LineFault}
use Rattle.board_file.specs.declared.board_fault.LineFault.TheVariants as fault
use Rattle.board_file.specs.Answers.{asks}
use Rattle.board_file.specs.Covering.{is_covered}
use Rattle.board_file.specs.BoardLines.{LineOrFault, read_line}

-- how many rules a board may have
abbrev pub most_rules : ℕ
most_rules = 512

abbrev pub RulesOrLineFault : Type 0
RulesOrLineFault = Result (List Rule) LineFault

-- the rules with one more behind them, if a call can reach it
abbrev pub with_rule : List Rule → Rule → RulesOrLineFault
with_rule rules rule =
    if nat_le most_rules (length rules) then Err fault.Many
    else if is_covered rules rule.pattern then Err fault.Unreachable
    else Ok (rules ++ rule ∷ [])

-- an open answer is a fault unless the board may be asked
abbrev pub with_answer : (may_ask : Bool) → List Rule → Rule → RulesOrLineFault
with_answer may_ask rules rule = if not may_ask && asks rule.reply then Err fault.Open else with_rule rules rule

abbrev pub with_read : (may_ask : Bool) → List Rule → LineOrFault → RulesOrLineFault
with_read may_ask rules (Err fault) = Err fault
with_read may_ask rules (Ok None) = Ok rules
with_read may_ask rules (Ok (Some rule)) = with_answer may_ask rules rule

abbrev pub RulesOrFault : Type 0
RulesOrFault = Result (List Rule) BoardFault

abbrev pub at_line : ℕ → RulesOrLineFault → RulesOrFault
at_line number (Ok rules) = Ok rules
at_line number (Err kind) = Err (record { line = number; kind = kind })

-- the rules with what a line holds
abbrev pub with_line : (may_ask : Bool) → List Rule → NumberedLine → RulesOrFault
with_line may_ask rules line = at_line line.0 (with_read may_ask rules (read_line (strip_carriage_return line.1)))

abbrev pub and_then : RulesOrFault → (List Rule → RulesOrFault) → RulesOrFault
and_then (Ok rules) next = next rules
and_then (Err fault) next = Err fault

-- line by line, as far as the first that is at fault
abbrev pub with_lines : (may_ask : Bool) → List Rule → List NumberedLine → RulesOrFault
with_lines may_ask rules [] = Ok rules
with_lines may_ask rules (line ∷ lines) = and_then (with_line may_ask rules line) (λ more. with_lines may_ask more lines)

-- what a whole board file is read as
abbrev pub board_of : (may_ask : Bool) → List ℕ → RulesOrFault
board_of may_ask text = with_lines may_ask [] (numbered_lines text)

-- the fault is the definition's, unless memory was refused
abbrev pub IsFaultOf : RulesOrFault → BoardFault → Type 0
IsFaultOf outcome found = found.kind ≢ fault.Memory → outcome ≡ Err found

-- the same of one line
abbrev pub IsLineFaultOf : {X : Type 0} → Result X LineFault → LineFault → Type 0
IsLineFaultOf outcome kind = kind ≢ fault.Memory → outcome ≡ Err kind

-- what a fault is called in a message
abbrev pub fault_text : LineFault → List ℕ
fault_text fault.Nul = codes "a byte 0"
fault_text fault.Long = codes "more than 4096 bytes"
fault_text fault.Form = codes "neither a name, perhaps with a status, nor a pattern, -> and an answer"
fault_text fault.NoPattern = codes "no pattern before ->"
fault_text fault.Words = codes "a pattern of more than 256 words"
fault_text fault.Minus = codes "a - is for the name of a builtin alone"
fault_text fault.Builtin = codes "a builtin answers this itself"
fault_text fault.NoAnswer = codes "no answer after ->"
fault_text fault.Open = codes "? is not an answer of a single run"
fault_text fault.NoScript = codes "what is after -> is not a script"
fault_text fault.NoStatus = codes "test -e is answered by a status alone"
fault_text fault.Many = codes "more than 512 rules"
fault_text fault.Unreachable = codes "an earlier line answers all of these calls"
fault_text fault.Memory = codes "out of memory"
