-- What the program prints on standard error (docs/tools.md, "Ends").
use Rattle.std.specs.Prelude.{◌≡◌, ℕ, List, [], ◌∷◌, ◌++◌, Option, Some, None, codes}
use Rattle.std.specs.Io.KnownBytes.{Appends}
use Rattle.fw_engines.specs.Streams.{AppendsFront, Writers}
use Rattle.fw_engines.specs.declared.tool_end.StreamFault.{StreamFault}
use Rattle.fw_engines.specs.declared.tool_end.StreamFault.TheVariants.{Read, Write, Memory}

-- the text on standard error for what stopped a tool
abbrev pub message_of : StreamFault → List ℕ
message_of Read = codes "fwenv: cannot read standard input" ++ 10 ∷ []
message_of Write = codes "fwenv: cannot write standard output" ++ 10 ∷ []
message_of Memory = codes "## Error: out of memory" ++ 10 ∷ []

-- it is printed as far as standard error takes it
abbrev pub Says : Option StreamFault → Option (List ℕ) → Option (List ℕ) → Type 0
Says None err err' = err' ≡ err
Says (Some fault) err err' = AppendsFront err err' (message_of fault)

-- some text is printed, or nothing: a contract knows nothing of the file that it is about
abbrev pub SaysSome : Option (List ℕ) → Option (List ℕ) → Type 0
SaysSome old new = (text : List ℕ) × Appends old new text

-- nothing is printed
abbrev pub AreSame : Writers → Writers → Type 0
AreSame old new = (new.output ≡ old.output) × (new.errors ≡ old.errors)
