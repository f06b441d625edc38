-- What the calls of a device, with their answers, make of what it held when it was opened.
use Rattle.std.specs.Prelude.{◌≡◌, ◌⊎◌, ◌≤◌, ℕ, suc, ◌+◌, List, [], ◌∷◌, length, take, drop, ⊤}
use Rattle.std.proofs.Common.{inl, inr, arith}
use Rattle.devices.specs.Device.{put, Torn}
use Rattle.device_files.specs.declared.record.Call.{Call}
use Rattle.device_files.specs.declared.record.Call.TheVariants.{Measured, Read, Written, Synced, Failed, WriteFailed}
use Rattle.device_files.specs.Record.{bytes_of}

-- the bytes after a call: a write that failed is not seen
abbrev pub seen_after_call : Call → List ℕ → List ℕ
seen_after_call (Measured size) seen = seen
seen_after_call (Read at n bytes) seen = seen
seen_after_call (Written at text) seen = put at (bytes_of text.value) seen
seen_after_call Synced seen = seen
seen_after_call Failed seen = seen
seen_after_call (WriteFailed at text) seen = seen

-- the bytes after these calls, of which the last comes first
abbrev pub seen_after : List ℕ → List Call → List ℕ
seen_after start [] = start
seen_after start (call ∷ calls) = seen_after_call call (seen_after start calls)

-- the answer of a call is that of a device with these bytes
abbrev pub Tells : Call → List ℕ → Type 0
Tells (Measured size) seen = size ≡ length seen
Tells (Read at n bytes) seen = bytes.value.items ≡ take n (drop at seen)
Tells (Written at text) seen = ⊤
Tells Synced seen = ⊤
Tells Failed seen = ⊤
Tells (WriteFailed at text) seen = ⊤

-- so is the answer of each
abbrev pub IsHonest : List ℕ → List Call → Type 0
IsHonest start [] = ⊤
IsHonest start (call ∷ calls) = IsHonest start calls × Tells call (seen_after start calls)

-- a crash while these bytes are written leaves any bytes in their place
abbrev pub MayTear : ℕ → List ℕ → (List ℕ → Type 0) → List ℕ → Type 0
MayTear at bytes before left = (whole : List ℕ) × before whole × Torn at (length bytes) whole left

-- what a crash may leave after a call, from what it might have left before it
abbrev pub MayLeaveAfterCall : Call → List ℕ → (List ℕ → Type 0) → List ℕ → Type 0
MayLeaveAfterCall (Measured size) seen before left = before left
MayLeaveAfterCall (Read at n bytes) seen before left = before left
MayLeaveAfterCall (Written at text) seen before left = MayTear at (bytes_of text.value) before left
MayLeaveAfterCall Synced seen before left = (left ≡ seen) × before left
MayLeaveAfterCall Failed seen before left = before left
MayLeaveAfterCall (WriteFailed at text) seen before left = MayTear at (bytes_of text.value) before left

-- what a crash may leave after these calls: what it held at first is durable
abbrev pub MayLeave : List ℕ → List Call → List ℕ → Type 0
MayLeave start [] left = left ≡ start
MayLeave start (call ∷ calls) left =
    MayLeaveAfterCall call (seen_after start calls) (MayLeave start calls) left

-- what a crash after so many calls, or after more, might have left
abbrev pub LeftSince : List ℕ → List Call → ℕ → List ℕ → Type 0
LeftSince start [] t left = MayLeave start [] left
LeftSince start (call ∷ calls) t left =
    MayLeave start (call ∷ calls) left ⊎ ((t ≤ length calls) × LeftSince start calls t left)

abbrev pub faults_in : Call → ℕ
faults_in (Measured size) = 0
faults_in (Read at n bytes) = 0
faults_in (Written at text) = 0
faults_in Synced = 0
faults_in Failed = 1
faults_in (WriteFailed at text) = 1

-- how many calls failed
abbrev pub faults_of : List Call → ℕ
faults_of [] = 0
faults_of (call ∷ calls) = faults_in call + faults_of calls

pub counts_now : (start : List ℕ) (calls : List Call) (t : ℕ) (left : List ℕ) →
    MayLeave start calls left → LeftSince start calls t left
counts_now start [] t left now = now
counts_now start (call ∷ calls) t left now = inl now

pub only_now : (start : List ℕ) (calls : List Call) (left : List ℕ) →
    LeftSince start calls (length calls) left → MayLeave start calls left
only_now start [] left since = since
only_now start (call ∷ calls) left (inl now) = now
only_now start (call ∷ calls) left (inr was) = absurd (too_far (length calls) was.0)
  where
    too_far : (n : ℕ) → suc n ≤ n → ⊥
    too_far n le = omega arith
