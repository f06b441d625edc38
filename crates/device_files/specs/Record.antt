-- The bytes and the calls that a record keeps.
use Rattle.std.specs.Prelude.{ℕ, List, [], ◌∷◌}
use Rattle.device_files.specs.declared.record.Text.{Text}
use Rattle.device_files.specs.declared.record.Text.TheVariants.{End, Byte'}
use Rattle.device_files.specs.declared.record.Call.{Call}
use Rattle.device_files.specs.declared.record.Calls.{Calls}
use Rattle.device_files.specs.declared.record.Calls.TheVariants.{Begun, Then'}
use Rattle.device_files.specs.declared.record.Record.{Record}

abbrev pub bytes_of : Text → List ℕ
bytes_of End = []
bytes_of (Byte' n m text) = n ∷ bytes_of text

-- the last call first
abbrev pub calls_of : Calls → List Call
calls_of Begun = []
calls_of (Then' call m calls) = call ∷ calls_of calls

abbrev pub calls_in : Record → List Call
calls_in record_ = calls_of record_.calls.value
