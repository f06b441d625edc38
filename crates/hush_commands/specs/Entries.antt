-- Names with values, as they lie in memory.
use Rattle.std.specs.Prelude.{ℕ, List, Vec, map}
use Rattle.std.specs.declared.alloc.Global.{Global}
use Rattle.hush_commands.specs.declared.stand_ins.Role.{Role}

-- a name and a value
abbrev pub Entry : Type 0 → Type 0
Entry V = Vec ℕ Global × V

abbrev pub entry_view : {V W : Type 0} → (V → W) → Entry V → List ℕ × W
entry_view view e = (e.0.items, view e.1)

abbrev pub entries_view : {V W : Type 0} → (V → W) → List (Entry V) → List (List ℕ × W)
entries_view view es = map (entry_view view) es

-- what a stand-in does, as it is
abbrev pub role_view : Role → Role
role_view role = role

-- the bytes of a value
abbrev pub bytes_view : Vec ℕ Global → List ℕ
bytes_view value = value.items
