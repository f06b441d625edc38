-- Copies in devices (docs/tools.md, "Subcommands over files").
use Rattle.std.specs.Prelude.{◌≡◌, ℕ, ◌+◌, ◌<◌, Bool, true, false, ◌&&◌, nat_lt, string_bytes, codes, List, [], ◌∷◌, ◌++◌, length, take, drop, Option, Some, None, option_map, Result, Ok, Err, if◌then◌else◌, ⊤}
use Rattle.std.specs.Str.{bytes_eq}
use Rattle.device_files.specs.Calls.{IsHonest, faults_of}
use Rattle.device_files.specs.declared.record.Call.{Call}
use Rattle.env_session.specs.declared.session.Stored.{Stored}
use Rattle.envimg_core.specs.Geometry.{Shape}
use Rattle.envimg_core.specs.State.{state_of}
use Rattle.envcfg_core.specs.declared.config.Config.{Config}
use Rattle.envcfg_core.specs.declared.place.Place.{Place}
use Rattle.envcfg_core.specs.Place.{start_of}
use Rattle.fw_engines.specs.Misplaced.{is_other_data}
use Rattle.fw_engines.specs.Ways.{is_good}
use Rattle.fw_files.specs.declared.copies.ReadCopy.{ReadCopy}
use Rattle.fw_files.specs.declared.file_fault.FileFault.{FileFault}
use Rattle.fw_files.specs.declared.file_fault.FileFault.TheVariants as file
use Rattle.fw_files.specs.declared.source.Source.{Source}
use Rattle.fw_files.specs.WrittenBack.{CallsOn, first_differs, second_differs}

-- the copy of this size at a place of a device, from where on and its bytes: none if it doesn't lie wholly inside
abbrev pub copy_at : Place → (size : ℕ) → (device : List ℕ) → Option (ℕ × List ℕ)
copy_at place size device = option_map (λ start. (start, take size (drop start device))) (start_of place.offset size (length device))

abbrev pub read_view : ReadCopy → ℕ × List ℕ
read_view copy = (copy.start, copy.bytes.items)

-- A copy that is read is what its device shows at its place. It is refused as too short only if it doesn't lie wholly inside, and as
-- one that can't be read only if the device can't be opened or failed. That is said of a device that held `start` when it was opened and
-- whose answers are those of what it holds.
abbrev pub ReadsIn : (start : List ℕ) → Place → (size : ℕ) → List Call → Result ReadCopy FileFault → Type 0
ReadsIn start place size calls (Ok copy) = copy_at place size start ≡ Some (read_view copy)
ReadsIn start place size calls (Err file.TooShort) = copy_at place size start ≡ None
ReadsIn start place size calls (Err (file.CannotRead why)) = 0 < faults_of calls
ReadsIn start place size calls (Err fault) = ⊤

abbrev pub Reads : (start : List ℕ) → Place → (size : ℕ) → CallsOn → Result ReadCopy FileFault → Type 0
Reads start place size (Some calls) result = IsHonest start calls → ReadsIn start place size calls result
Reads start place size None (Ok copy) = ⊥
Reads start place size None (Err file.TooShort) = ⊥
Reads start place size None (Err fault) = ⊤

-- the path of a copy's device
abbrev pub device_at : Place → Option Place → (is_second : Bool) → List ℕ
device_at first (Some place) true = string_bytes place.device
device_at first place is_second = string_bytes first.device

abbrev pub device_of : Config → (is_second : Bool) → List ℕ
device_of config is_second = device_at config.first config.second is_second

-- two copies of one device share a byte: each begins before the end of the other
abbrev pub share_a_byte : ℕ → ℕ → ℕ → Bool
share_a_byte first second size = nat_lt first (second + size) && nat_lt second (first + size)

-- two places and where their copies begin, of one size: they share a byte, and equal texts name their devices
abbrev pub overlap_at : Place → ℕ → ℕ → Option Place → Option ReadCopy → Bool
overlap_at first start size (Some place) (Some second) = bytes_eq (string_bytes first.device) (string_bytes place.device) && share_a_byte start second.start size
overlap_at first start size place second = false

abbrev pub overlap : Config → ReadCopy → Option ReadCopy → Bool
overlap config first second = overlap_at config.first first.start config.size config.second second

-- ---- other data

-- a copy's place holds other data, and the copy beside it is good
abbrev pub goes_over : Shape → (copy beside : List ℕ) → Bool
goes_over shape copy beside = is_other_data shape copy && is_good (state_of shape beside)

abbrev pub over_data : (which : List ℕ) → List ℕ
over_data which = codes "Warning: the " ++ which ++ codes " copy is written over data that is no environment" ++ 10 ∷ []

-- the warning before a write of the first copy, or of the second
abbrev pub warning_by : Shape → (first : List ℕ) → (second : Option ReadCopy) → (writes_first writes_second : Bool) → List ℕ
warning_by shape first None writes_first writes_second = []
warning_by shape first (Some second) writes_first writes_second =
    if writes_first && goes_over shape first second.bytes.items then over_data (codes "first")
    else if writes_second && goes_over shape second.bytes.items first then over_data (codes "second")
    else []

abbrev pub warning_of : Source → (writes_first writes_second : Bool) → List ℕ
warning_of source writes_first writes_second = warning_by source.geometry source.first.bytes.items source.second writes_first writes_second

-- the same for the copies of a session that changed
abbrev pub warned_of : Source → Stored → List ℕ
warned_of source stored = warning_of source (first_differs source stored) (second_differs source.second stored.second)
