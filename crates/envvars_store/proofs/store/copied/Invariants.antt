use Rattle.std.proofs.Common.{◌≡◌, ◌≤◌, ◌-◌, length, take}
use Rattle.envvars_store.proofs.store.copied.Given as goal

abbrev pub invariant-walk : goal.invariant-walk
invariant-walk l = record { within : l.at ≤ length l.bytes; same : l.copy.items ≡ take l.at l.bytes }

abbrev pub decreases-walk : goal.decreases-walk
decreases-walk l = length l.bytes - l.at
