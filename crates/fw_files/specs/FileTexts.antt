-- What the files of a system hold, as far as it is known to contracts (docs/promises.md).
use Rattle.std.specs.Prelude.{ℕ, List, Option}
use Rattle.std.specs.Io.KnownBytes.{Appends, Consumes, IsAtEnd}

-- which bytes the file at a path may hold, or which were written into it
abbrev pub Holds : Type 1
Holds = (path bytes : List ℕ) → Type 0

-- what a file that was opened to be read gives, up to its end, is what is held
abbrev pub GivesHeld : (File : Type 0) → (remaining : File → Option (List ℕ)) → (IsHeld : List ℕ → Type 0) → File → Type 0
GivesHeld File remaining IsHeld file =
    (end : File) → (bytes : List ℕ) → Consumes (remaining file) (remaining end) bytes → IsAtEnd (remaining end) → IsHeld bytes

-- what a file that was emptied takes is what was written
abbrev pub TakesWritten : (File : Type 0) → (contents : File → Option (List ℕ)) → (IsWritten : List ℕ → Type 0) → File → Type 0
TakesWritten File contents IsWritten file =
    (end : File) → (bytes : List ℕ) → Appends (contents file) (contents end) bytes → IsWritten bytes
