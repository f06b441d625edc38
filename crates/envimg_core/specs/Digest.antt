-- Which bytes a checksum that takes them piece by piece has taken.
use Rattle.std.specs.Prelude.{◌≡◌, ℕ, ◌<◌, ◌^◌, List, get_or}
use Rattle.envimg_core.specs.Register.{feed}
use Rattle.envimg_core.specs.declared.checksum.Digest.{Digest}

-- each is a byte
abbrev pub AreBytes : List ℕ → Type 0
AreBytes bytes = (i : ℕ) → get_or bytes i 0 < 2 ^ 8

-- its register is what these bytes leave in it
abbrev pub HasTaken : Digest → List ℕ → Type 0
HasTaken crc bytes = crc.register ≡ feed 0xFFFFFFFF bytes
