-- What the steps of the reader hand on, in the words of the definitions: no part of what the crate promises.
use Rattle.std.specs.Prelude.{ℕ, ◌+◌, ◌<◌, List, [], ◌++◌, false, length, Ok, Err}
use Rattle.envcfg_core.specs.declared.spelled.ValueText.{ValueText}
use Rattle.envcfg_core.specs.declared.spelled.Stop.{Stop}
use Rattle.envcfg_core.specs.declared.spelled.Stop.TheVariants.{End, Newline, Literal}
use Rattle.envcfg_core.specs.Entries.{Entry, Outcome}
use Rattle.envcfg_core.specs.Import.{Spelled, spelled, with_byte, ended_by_newline}

abbrev pub value_view : ValueText → Spelled
value_view v = record { bytes = v.bytes.items; newlines = v.newlines; rest = v.rest.now }

abbrev pub stop_view : Stop → Spelled
stop_view End = record { bytes = []; newlines = 0; rest = [] }
stop_view (Newline rest) = ended_by_newline rest.now
stop_view (Literal b rest) = with_byte b (spelled false rest.now)

-- what follows is shorter than the text of this length
abbrev pub StopIsWithin : ℕ → Stop → Type 0
StopIsWithin n End = Unit {0}
StopIsWithin n (Newline rest) = length rest.now < n
StopIsWithin n (Literal b rest) = length rest.now < n

-- the value text with bytes and newlines before it
abbrev pub onto : List ℕ → ℕ → Spelled → Spelled
onto bytes newlines v = record { bytes = bytes ++ v.bytes; newlines = newlines + v.newlines; rest = v.rest }

-- an outcome with entries before those that it has
abbrev pub with_front : List Entry → Outcome → Outcome
with_front front (Ok entries) = Ok (front ++ entries)
with_front front (Err fault) = Err fault
