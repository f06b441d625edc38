-- Copies that are written back.
use Rattle.std.specs.Prelude.{◌≡◌, ◌⊎◌, ℕ, ◌+◌, ◌≤◌, List, [], ◌∷◌, length, take, drop, Bool, false, if◌then◌else◌, ⊤}
use Rattle.std.specs.Str.{bytes_eq}
use Rattle.devices.specs.declared.writing.Change.{Change}
use Rattle.devices.specs.Device.{put, Torn}

-- its bytes are to be what they were
abbrev pub is_same : Change → Bool
is_same change = bytes_eq change.as_read.now change.to_write.now

-- the device has these bytes at this place
abbrev pub Shows : List ℕ → ℕ → List ℕ → Type 0
Shows device at bytes = take (length bytes) (drop at device) ≡ bytes

-- the copies are in the device as they were read
abbrev pub AreAsRead : List Change → List ℕ → Type 0
AreAsRead [] device = ⊤
AreAsRead (change ∷ changes) device = Shows device change.at change.as_read.now × AreAsRead changes device

-- the copies are in the device as they were to be
abbrev pub AreWritten : List Change → List ℕ → Type 0
AreWritten [] device = ⊤
AreWritten (change ∷ changes) device = Shows device change.at change.to_write.now × AreWritten changes device

-- the device once a copy is written, which it is only if its bytes changed
abbrev pub after : Change → List ℕ → List ℕ
after change device = if is_same change then device else put change.at change.to_write.now device

-- once all are written
abbrev pub after_all : List Change → List ℕ → List ℕ
after_all [] device = device
after_all (change ∷ changes) device = after_all changes (after change device)

-- what a crash may leave while a copy is written: any bytes at its place, and all others as they were
abbrev pub Writing : Change → List ℕ → List ℕ → Type 0
Writing change device left =
    (is_same change ≡ false) × Torn change.at (length change.to_write.now) device left

-- what a crash may leave at some moment: one copy is being written, those before it are written, no other is touched
abbrev pub OneAtATime : List Change → List ℕ → List ℕ → Type 0
OneAtATime [] device left = left ≡ device
OneAtATime (change ∷ changes) device left =
    Writing change device left ⊎ OneAtATime changes (after change device) left

-- what a crash may leave of copies that are written back: nothing is written unless each is as it was read
abbrev pub WrittenBack : List Change → List ℕ → List ℕ → Type 0
WrittenBack changes device left =
    (left ≡ device) ⊎ (AreAsRead changes device × OneAtATime changes device left)

-- each copy keeps its length
abbrev pub KeepLength : List Change → Type 0
KeepLength [] = ⊤
KeepLength (change ∷ changes) = (length change.to_write.now ≡ length change.as_read.now) × KeepLength changes

-- a copy lies inside a device of this length
abbrev pub IsInside : Change → ℕ → Type 0
IsInside change size = change.at + length change.to_write.now ≤ size

-- so does each copy that is to be written
abbrev pub AreInside : List Change → ℕ → Type 0
AreInside [] size = ⊤
AreInside (change ∷ changes) size = (is_same change ≡ false → IsInside change size) × AreInside changes size

-- two copies share no byte
abbrev pub IsApart : Change → Change → Type 0
IsApart one other =
    (one.at + length one.to_write.now ≤ other.at) ⊎ (other.at + length other.to_write.now ≤ one.at)

-- a copy shares no byte with any of these
abbrev pub IsApartFrom : Change → List Change → Type 0
IsApartFrom one [] = ⊤
IsApartFrom one (other ∷ others) = IsApart one other × IsApartFrom one others

-- no two copies share a byte
abbrev pub AreApart : List Change → Type 0
AreApart [] = ⊤
AreApart (change ∷ changes) = IsApartFrom change changes × AreApart changes
