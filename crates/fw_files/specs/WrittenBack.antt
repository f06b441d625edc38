-- Copies that are written back over their devices (docs/tools.md, "Devices"; docs/promises.md, "Devices and power cuts").
use Rattle.std.specs.Prelude.{◌≡◌, ◌≤◌, ◌⊎◌, ℕ, ◌+◌, MatchBool, string_bytes, Bool, true, false, not, List, [], ◌∷◌, map, Option, Some, None, Vec, ⊤}
use Rattle.std.specs.Str.{bytes_eq}
use Rattle.std.specs.declared.alloc.Global.{Global}
use Rattle.devices.specs.Changes.{Shows, AreAsRead, OneAtATime}
use Rattle.devices.specs.Device.{Only}
use Rattle.devices.specs.declared.device.Fault.{Fault}
use Rattle.devices.specs.declared.device.Fault.TheVariants as device
use Rattle.devices.specs.declared.writing.Change.{Change}
use Rattle.device_files.specs.Calls.{IsHonest, LeftSince, MayLeave, seen_after}
use Rattle.device_files.specs.declared.record.Call.{Call}
use Rattle.env_session.specs.Session.{Held}
use Rattle.envcfg_core.specs.declared.place.Place.{Place}
use Rattle.env_session.specs.declared.session.Stored.{Stored}
use Rattle.envimg_core.specs.declared.choice.Choice.{Choice}
use Rattle.envimg_core.specs.declared.choice.Choice.TheVariants.{First}
use Rattle.fw_files.specs.declared.copies.ReadCopy.{ReadCopy}
use Rattle.fw_files.specs.Files.{reason_by}
use Rattle.fw_files.specs.declared.file_fault.FileFault.{FileFault}
use Rattle.fw_files.specs.declared.file_fault.FileFault.TheVariants as file
use Rattle.fw_files.specs.declared.reasons.Reason.{Reason}
use Rattle.fw_files.specs.declared.reasons.Reason.TheVariants as reason
use Rattle.fw_files.specs.declared.source.Source.{Source}
use Rattle.std.specs.declared.io.ErrorKind.{ErrorKind}
use Rattle.std.specs.declared.io.ErrorKind.TheVariants.{UnexpectedEof}

-- a copy is to have other bytes than those that were read
abbrev pub differs : (read : List ℕ) → (to_write : List ℕ) → Bool
differs read to_write = not (bytes_eq read to_write)

abbrev pub first_differs : Source → Stored → Bool
first_differs source stored = differs source.first.bytes.items stored.first.items

abbrev pub second_differs : Option ReadCopy → Option (Vec ℕ Global) → Bool
second_differs read None = false
second_differs None (Some to_write) = true
second_differs (Some read) (Some to_write) = differs read.bytes.items to_write.items

-- ---- what is in the devices

-- how many bytes of the first device stand before those of the second: none if both copies are in one, else all, those of
-- the first copy among them
abbrev pub IsBehind : Place → (end : ℕ) → Option Place → Option ReadCopy → (before : ℕ) → Type 0
IsBehind first end place None before = ⊤
IsBehind first end None (Some read) before = ⊥
IsBehind first end (Some place) (Some read) before =
    MatchBool (bytes_eq (string_bytes place.device) (string_bytes first.device)) (before ≡ 0) (end ≤ before)

abbrev pub IsBefore : Source → (before : ℕ) → Type 0
IsBefore source before = IsBehind source.config.first (source.first.start + source.config.size) source.config.second source.second before

-- the bytes of a second copy are in their place
abbrev pub ShowsSecond : (seen : List ℕ) → (before : ℕ) → Option ReadCopy → Option (List ℕ) → Type 0
ShowsSecond seen before read None = ⊤
ShowsSecond seen before None (Some bytes) = ⊥
ShowsSecond seen before (Some read) (Some bytes) = Shows seen (before + read.start) bytes

-- so are the bytes of both
pub record ShowsCopies (seen : List ℕ) (source : Source) (before : ℕ) (first : List ℕ) (second : Option (List ℕ)) : Type 0 where
  pub first_copy : Shows seen source.first.start first
  pub second_copy : ShowsSecond seen before source.second second

-- the copies have the bytes that were read
abbrev pub IsSecondAsRead : Option ReadCopy → Option (List ℕ) → Type 0
IsSecondAsRead read None = ⊤
IsSecondAsRead None (Some bytes) = ⊥
IsSecondAsRead (Some read) (Some bytes) = bytes ≡ read.bytes.items

pub record AreUnchanged (source : Source) (first : List ℕ) (second : Option (List ℕ)) : Type 0 where
  pub first_copy : first ≡ source.first.bytes.items
  pub second_copy : IsSecondAsRead source.second second

-- the calls on devices that are handed back, if some are
abbrev pub CallsOn : Type 0
CallsOn = Option (List Call)

-- Both copies are written, and no crash undoes it: they are in the devices that are handed back, or nothing was to be written.
-- That is said of devices which held `start` when they were opened and whose answers are those of what they hold.
abbrev pub AreWritten : (start : List ℕ) → Source → (first : List ℕ) → (second : Option (List ℕ)) → CallsOn → Type 0
AreWritten start source first second None = AreUnchanged source first second
AreWritten start source first second (Some calls) =
    (before : ℕ) × IsBefore source before
    × (IsHonest start calls → ShowsCopies (seen_after start calls) source before first second × Only (seen_after start calls) (MayLeave start calls))

-- why a copy can't be written, by the error of a call: a device that is too short by now was changed
abbrev pub reason_to_write : ErrorKind → Reason
reason_to_write UnexpectedEof = reason.Changed
reason_to_write error = reason_by error

-- the same by what its device answered, and the error of its last call
abbrev pub fault_of : Fault → Option ErrorKind → FileFault
fault_of device.Memory error = file.Memory
fault_of device.Changed error = file.CannotWrite reason.Changed
fault_of device.Failed None = file.CannotWrite reason.Changed
fault_of device.Failed (Some error) = file.CannotWrite (reason_to_write error)

-- ---- a crash

-- a copy that is written back: its place, its bytes as they were read, and as they are to be
abbrev pub Step : Type 0
Step = ℕ × List ℕ × List ℕ

abbrev pub step_of : Change → Step
step_of change = (change.at, change.as_read.now, change.to_write.now)

-- the first before the second, or this copy last
abbrev pub in_order : (last : Choice) → Step → Step → List Step
in_order First first second = second ∷ first ∷ []
in_order last first second = first ∷ second ∷ []

abbrev pub steps_of : (last : Choice) → Step → (before : ℕ) → Option ReadCopy → Option (List ℕ) → List Step
steps_of last first before read None = first ∷ []
steps_of last first before None (Some bytes) = first ∷ []
steps_of last first before (Some read) (Some bytes) = in_order last first (before + read.start, read.bytes.items, bytes)

abbrev pub AreSteps : (last : Choice) → Source → (before : ℕ) → (first : List ℕ) → (second : Option (List ℕ)) → List Change → Type 0
AreSteps last source before first second changes =
    map step_of changes ≡ steps_of last (source.first.start, source.first.bytes.items, first) before source.second second

-- What a crash may leave: all as it was; or, each copy having been as it was read, one of them is being written, those
-- before it in this order are written, and no other byte is touched.
abbrev pub IsLeft : (last : Choice) → Source → (before : ℕ) → (first : List ℕ) → (second : Option (List ℕ)) → (device left : List ℕ) → Type 0
IsLeft last source before first second device left =
    (left ≡ device)
    ⊎ ((changes : List Change) × AreSteps last source before first second changes × AreAsRead changes device × OneAtATime changes device left)

-- whatever it leaves at any moment since the devices were opened
abbrev pub LeavesAtAnyMoment : (start : List ℕ) → (last : Choice) → Source → (first : List ℕ) → (second : Option (List ℕ)) → CallsOn → Type 0
LeavesAtAnyMoment start last source first second None = ⊤
LeavesAtAnyMoment start last source first second (Some calls) =
    (before : ℕ) × IsBefore source before
    × (IsHonest start calls → (left : List ℕ) → LeftSince start calls 0 left → IsLeft last source before first second start left)

-- ---- a subcommand

-- the devices that are handed back: what they held when they were opened to be written, and the calls on them before a subcommand
-- and after it
pub record Devices : Type 0 where
  pub start : List ℕ
  pub before : CallsOn
  pub after : CallsOn

-- none is handed back
abbrev pub AreLeft : Devices → Type 0
AreLeft devices = devices.after ≡ devices.before

-- a session's copies are written
abbrev pub AreKept : Source → (session : Held) → Devices → Type 0
AreKept source session devices = AreWritten devices.start source session.now.first session.now.second devices.after

-- and at any moment a crash leaves no more than one of them torn
abbrev pub AreSafe : (last : Choice) → Source → (session : Held) → Devices → Type 0
AreSafe last source session devices =
    LeavesAtAnyMoment devices.start last source session.now.first session.now.second devices.after
