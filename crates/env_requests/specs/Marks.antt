-- Which requests go to a mark, which replies report one, and which requests leave one.
use Rattle.std.specs.Prelude.{ℕ, nat_le, ◌==◌, Bool, true, false, Option, Some, None, Ok, Err}
use Rattle.env_requests.specs.Requests.{Request, Run, Write, Import, Save, Print, Mark, Undo, UndoTo, Reply, Ran, Wrote, Imported, Saved, Printed, Marked, Undone}

-- the mark to which a request undoes, if it is an undo
abbrev pub undoes_to : Request → Option ℕ
undoes_to (Run tree) = None
undoes_to (Write name new force) = None
undoes_to (Import entries) = None
undoes_to Save = None
undoes_to Print = None
undoes_to Mark = None
undoes_to Undo = Some 0
undoes_to (UndoTo n) = Some n

-- whether a reply reports that mark n was made
abbrev pub makes_mark : ℕ → Reply → Bool
makes_mark n (Ran ending status steps text) = false
makes_mark n (Wrote result) = false
makes_mark n (Imported done refused ending) = false
makes_mark n (Saved result) = false
makes_mark n (Printed result) = false
makes_mark n (Marked (Ok number)) = number == n
makes_mark n (Marked (Err fault)) = false
makes_mark n (Undone result) = false

abbrev pub spared_by : ℕ → Option ℕ → Bool
spared_by n None = true
spared_by n (Some m) = nat_le n m

-- whether a request leaves mark n: only an undo to a mark below it takes it away
abbrev pub spares : ℕ → Request → Bool
spares n request = spared_by n (undoes_to request)
