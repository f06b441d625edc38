-- How a tool ends (docs/tools.md, "Ends").
use Rattle.std.specs.Prelude.{◌≡◌, ◌⊎◌, ℕ, List, Option, Some, None, MatchOption}
use Rattle.std.specs.Io.KnownBytes.{Appends, Keeps}
use Rattle.fw_engines.specs.Streams.{AppendsFront, AppendsPart, Gave, GaveAll, Writers}
use Rattle.fw_engines.specs.declared.tool_end.ToolEnd.{ToolEnd}
use Rattle.fw_engines.specs.declared.tool_end.StreamFault.{StreamFault}
use Rattle.fw_engines.specs.declared.tool_end.StreamFault.TheVariants.{Read, Write, Memory}

-- what a tool prints on standard output and standard error, and its status
pub record Texts : Type 0 where
  pub output : List ℕ
  pub errors : List ℕ
  pub status : ℕ

-- what was read: all, or some of it if reading or memory failed
abbrev pub Took : Option StreamFault → Option (List ℕ) → Option (List ℕ) → ℕ → List ℕ → Type 0
Took None = GaveAll
Took (Some Write) = GaveAll
Took (Some Read) = Gave
Took (Some Memory) = Gave

-- both texts were written
abbrev pub Writes : Writers → Writers → Texts → Type 0
Writes old new texts = Appends old.output new.output texts.output × Appends old.errors new.errors texts.errors

-- a prefix of each text was written, and something of one of them is left
abbrev pub WritesPart : Writers → Writers → Texts → Type 0
WritesPart old new texts =
    (AppendsPart old.output new.output texts.output × AppendsFront old.errors new.errors texts.errors)
    ⊎ (AppendsFront old.output new.output texts.output × AppendsPart old.errors new.errors texts.errors)

-- nothing was written
abbrev pub WritesNothing : Writers → Writers → Type 0
WritesNothing old new = Keeps old.output new.output × Keeps old.errors new.errors

-- what was written: both texts; less than that if writing failed; nothing if reading or memory failed
abbrev pub Printed : Option StreamFault → Writers → Writers → Texts → ℕ → Type 0
Printed None old new texts status = Writes old new texts × (status ≡ texts.status)
Printed (Some Write) old new texts status = WritesPart old new texts × (status ≡ 1)
Printed (Some Read) old new texts status = WritesNothing old new × (status ≡ 1)
Printed (Some Memory) old new texts status = WritesNothing old new × (status ≡ 1)

-- the same for a tool that neither reads nor allocates memory
abbrev pub Prints : Writers → Writers → Texts → ToolEnd → Type 0
Prints old new texts end =
    MatchOption end.fault (Writes old new texts × (end.status ≡ texts.status)) (λ fault. (fault ≡ Write) × WritesPart old new texts × (end.status ≡ 1))

-- a fault before anything is written
abbrev pub IsEarly : StreamFault → Type 0
IsEarly Read = Unit {0}
IsEarly Memory = Unit {0}
IsEarly Write = ⊥

-- one text was written with this status; or less than the text, and the fault is one of writing
abbrev pub PrintsText : Option (List ℕ) → Option (List ℕ) → List ℕ → ℕ → ToolEnd → Type 0
PrintsText old new text status end =
    MatchOption end.fault (Appends old new text × (end.status ≡ status)) (λ fault. (fault ≡ Write) × AppendsPart old new text × (end.status ≡ 1))

-- the same with status 0, but memory may have run out before anything was written
abbrev pub Lists : Option (List ℕ) → Option (List ℕ) → List ℕ → ToolEnd → Type 0
Lists old new text end =
    PrintsText old new text 0 end ⊎ ((end.fault ≡ Some Memory) × Keeps old new × (end.status ≡ 1))
