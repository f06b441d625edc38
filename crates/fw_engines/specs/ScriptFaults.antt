-- Where and why a text isn't a script (docs/dry-runs.md, "A script's own status").
use Rattle.std.specs.Prelude.{ℕ, List, [], ◌∷◌, codes}
use Rattle.std.specs.Fmt.{decimal}
use Rattle.std.specs.List.{concat}
use Rattle.hush_syntax.specs.declared.syntax_fault.FaultKind.{FaultKind}
use Rattle.hush_syntax.specs.declared.syntax_fault.FaultKind.TheVariants as fault
use Rattle.fw_engines.specs.TextPlaces.{place_of}
use Rattle.fw_engines.specs.declared.text_places.Place.{Place}

-- what keeps a text from being a script: its name, and a sentence
abbrev pub fault_name : FaultKind → List ℕ
fault_name fault.Quote = codes "Quote"
fault_name fault.Backslash = codes "Backslash"
fault_name fault.Substitution = codes "Substitution"
fault_name fault.Operator = codes "Operator"
fault_name fault.Unexpected = codes "Unexpected"
fault_name fault.Missing = codes "Missing"
fault_name fault.Nest = codes "Nest"
fault_name fault.Assignment = codes "Assignment"
fault_name fault.Nul = codes "Nul"
fault_name fault.Memory = codes "Memory"

abbrev pub fault_sentence : FaultKind → List ℕ
fault_sentence fault.Quote = codes "a quote is not closed"
fault_sentence fault.Backslash = codes "the text ends with a backslash"
fault_sentence fault.Substitution = codes "not a substitution of this shell: ${NAME}, $NAME or $?"
fault_sentence fault.Operator = codes "a single & or |, which this shell does not have"
fault_sentence fault.Unexpected = codes "not expected here"
fault_sentence fault.Missing = codes "the text ends where more has to follow"
fault_sentence fault.Nest = codes "more than 64 commands inside one another"
fault_sentence fault.Assignment = codes "a word after an assignment"
fault_sentence fault.Nul = codes "a byte 0"
fault_sentence fault.Memory = codes "out of memory"

-- where and why a text isn't a script
abbrev pub fault_at : (name : List ℕ) → Place → (kind sentence : List ℕ) → List ℕ
fault_at name place kind sentence =
    concat (codes "fwenv: " ∷ name ∷ codes ":" ∷ decimal place.line ∷ codes ":" ∷ decimal place.column ∷ codes ": " ∷ kind ∷ codes ": " ∷ sentence ∷ codes "\n" ∷ [])

abbrev pub fault_line : (name text : List ℕ) → (count : ℕ) → FaultKind → List ℕ
fault_line name text count kind = fault_at name (place_of text count) (fault_name kind) (fault_sentence kind)
