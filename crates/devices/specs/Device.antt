-- What the calls of a device do to its bytes, and what a crash may do between two syncs.
use Rattle.std.specs.Prelude.{◌<◌, ◌≡◌, ◌⊎◌, ℕ, ◌+◌, ◌≤◌, List, ◌++◌, length, take, drop, Result, IsErrOf}
use Rattle.devices.specs.declared.device.Fault.{Fault}
use Rattle.devices.specs.declared.device.Fault.TheVariants.{Failed, Changed}

-- these bytes put over what is at this place
abbrev pub put : ℕ → List ℕ → List ℕ → List ℕ
put at bytes device = take at device ++ bytes ++ drop (at + length bytes) device

-- n bytes from here on are any, and all others are as they were
pub record Torn (at n : ℕ) (old new : List ℕ) : Type 0 where
  pub before : take at new ≡ take at old
  pub after : drop (at + n) new ≡ drop (at + n) old
  pub same_length : length new ≡ length old

-- each new outcome of a crash is an old outcome after a step
abbrev pub Follows : (List ℕ → List ℕ → Type 0) → (List ℕ → Type 0) → (List ℕ → Type 0) → Type 0
Follows step old new = (c : List ℕ) → new c → (d : List ℕ) × old d × step d c

-- a crash leaves this and nothing else
abbrev pub Only : List ℕ → (List ℕ → Type 0) → Type 0
Only device outcomes = (c : List ℕ) → outcomes c → c ≡ device

-- Time goes on: a crash since t might have left what it might have left before, or what it may leave now.
pub record Elapses (before now : ℕ) (past since : ℕ → List ℕ → Type 0)
    (may_leave : List ℕ → Type 0) : Type 0 where
  pub later : before ≤ now
  pub nothing_else : (t : ℕ) (c : List ℕ) → t ≤ before → since t c → past t c ⊎ may_leave c
  pub keeps : (t : ℕ) (c : List ℕ) → t ≤ before → past t c → since t c

-- Nothing was written, and a crash leaves nothing that it would not have left before.
pub record Untouched {D : Type 0} (seen : D → List ℕ) (may_leave : D → List ℕ → Type 0)
    (moment : D → ℕ) (left_since : D → ℕ → List ℕ → Type 0) (old new : D) : Type 0 where
  pub same : seen new ≡ seen old
  pub crash : (c : List ℕ) → may_leave new c → may_leave old c
  pub later : moment old ≤ moment new
  pub nothing_else : (t : ℕ) (c : List ℕ) → t ≤ moment old → left_since new t c → left_since old t c
  pub keeps : (t : ℕ) (c : List ℕ) → t ≤ moment old → left_since old t c → left_since new t c

-- A crash at any moment since old leaves bytes that have P.
pub record LeavesOnly {D : Type 0} (moment : D → ℕ) (left_since : D → ℕ → List ℕ → Type 0)
    (old new : D) (P : List ℕ → Type 0) : Type 0 where
  pub later : moment old ≤ moment new
  pub each : (c : List ℕ) → left_since new (moment old) c → P c
  -- for a run that began earlier
  pub before : (t : ℕ) (c : List ℕ) → t ≤ moment old → left_since new t c → left_since old t c ⊎ P c

-- `Failed` is told only where the device has failed since
pub record FailsOnly {T : Type 0} (before now : ℕ) (result : Result T Fault) : Type 0 where
  pub later : before ≤ now
  pub failed : IsErrOf result Failed → before < now

-- the same, and `Changed` isn't told
pub record HasCause {T : Type 0} (before now : ℕ) (result : Result T Fault) : Type 0 where
  pub later : before ≤ now
  pub failed : IsErrOf result Failed → before < now
  pub not_changed : IsErrOf result Changed → ⊥
