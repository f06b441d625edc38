-- A whole source (docs/texts.md, "A source of U-Boot").
use Rattle.std.specs.Prelude.{ℕ, if◌then◌else◌, List, [], ◌∷◌, Result, Ok, Err}
use Rattle.envcfg_core.specs.Entries.{Entry}
use Rattle.text_parts.specs.Lines.{Line, numbered_lines}
use Rattle.env_source.specs.declared.source_fault.Flaw.TheVariants as flaw
use Rattle.env_source.specs.declared.source_fault.SourceFault.{SourceFault}
use Rattle.env_source.specs.Reading.{Reading, ReadingOrFlaw, entries_of, is_lost, nothing_read, with_current, with_said}
use Rattle.env_source.specs.SourceLines.{read_line}

abbrev pub ReadingOrFault : Type 0
ReadingOrFault = Result Reading SourceFault

abbrev pub at_line : ℕ → ReadingOrFlaw → ReadingOrFault
at_line number (Ok reading) = Ok reading
at_line number (Err flaw) = Err (record { line = number; flaw = flaw })

abbrev pub with_line : Reading → Line → ReadingOrFault
with_line r line = at_line line.0 (with_said r line.0 (read_line line.1))

abbrev pub and_then : {X : Type 0} → ReadingOrFault → (Reading → Result X SourceFault) → Result X SourceFault
and_then (Ok reading) next = next reading
and_then (Err fault) next = Err fault

-- line by line, as far as the first that is at fault
abbrev pub with_lines : Reading → List Line → ReadingOrFault
with_lines r [] = Ok r
with_lines r (line ∷ lines) = and_then (with_line r line) (λ more. with_lines more lines)

-- at the end the last variable ends
abbrev pub finished : Reading → Result (List Entry) SourceFault
finished r =
    if is_lost r then Err (record { line = r.current.line; flaw = flaw.Lost })
    else Ok (entries_of (with_current r))

-- the variables of a source as entries, in the order of the names' bytes, or the first fault
abbrev pub source_of : List ℕ → Result (List Entry) SourceFault
source_of text = and_then (with_lines nothing_read (numbered_lines text)) finished
