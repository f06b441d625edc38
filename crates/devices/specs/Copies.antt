-- Copies that are read.
use Rattle.std.specs.Prelude.{ℕ, ◌-◌, nat_le, List, length, take, drop, Option, Some, None, if◌then◌else◌}

-- the copy that begins here: none if the device has fewer bytes from there on
abbrev pub copy_in : (start size : ℕ) → (device : List ℕ) → Option (List ℕ)
copy_in start size device =
    if nat_le size (length device - start) then Some (take size (drop start device)) else None
