-- Where a copy begins in a device.
use Rattle.std.specs.Prelude.{ℕ, ◌+◌, ◌-◌, ◌&&◌, nat_le, ℤ, pos, negsuc, Option, Some, None, if◌then◌else◌}

-- an offset of 0 or more counts from the front of the device, a negative one back from its end;
-- no value if the copy doesn't lie wholly inside
abbrev pub start_of : ℤ → ℕ → ℕ → Option ℕ
start_of (pos n) size length = if nat_le (n + size) length then Some n else None
start_of (negsuc n) size length =
    let back = n + 1 in
    if nat_le back length && nat_le size back then Some (length - back) else None
