use Rattle.std.proofs.Common.{◌≡◌, take}
use Rattle.envvars_store.proofs.extents.shared.Given as goal

-- the bytes before are shared
abbrev pub invariant-bytes : goal.invariant-bytes
invariant-bytes l = take l.i l.text ≡ take l.i l.other
