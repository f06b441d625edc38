-- What a run has printed, and what is printed after it.
use Rattle.std.specs.Prelude.{◌≡◌, ℕ, ◌<◌, ◌≤◌, Bool, if◌then◌else◌, List, ◌++◌, length, Result, Ok, Err}
use Rattle.hush_commands.specs.declared.output.PrintFault.{PrintFault}
use Rattle.hush_commands.specs.declared.output.PrintFault.TheVariants.{Output, Memory}

-- a text, and how long it may be
pub record Printed : Type 0 where
  pub text : List ℕ
  pub limit : ℕ

abbrev pub printed : List ℕ → ℕ → Printed
printed text limit = record { text = text; limit = limit }

-- what was printed stays, and perhaps something after it
abbrev pub GoesOn : Printed → Printed → Type 0
GoesOn old new = (more : List ℕ) × (new ≡ printed (old.text ++ more) old.limit)

-- a text is printed, or it doesn't fit, or memory was refused
abbrev pub Prints : List ℕ → Printed → Printed → Result (Unit {0}) PrintFault → Type 0
Prints text old new (Ok u) = new ≡ printed (old.text ++ text) old.limit
Prints text old new (Err Output) = (old.limit < length (old.text ++ text)) × GoesOn old new
Prints text old new (Err Memory) = GoesOn old new

-- memory was refused for a text that isn't empty and that fits
abbrev pub LacksRoom : List ℕ → Printed → Type 0
LacksRoom text old = (0 < length text) × (length (old.text ++ text) ≤ old.limit)

-- this if memory was refused
abbrev pub OnMemory : {X : Type 0} → Result X PrintFault → Type 0 → Type 0
OnMemory (Ok x) fact = Unit {0}
OnMemory (Err Output) fact = Unit {0}
OnMemory (Err Memory) fact = fact

-- a text is printed, or nothing has changed: it doesn't fit, or it fits and memory was refused
abbrev pub PrintsWhole : List ℕ → Printed → Printed → Result (Unit {0}) PrintFault → Type 0
PrintsWhole text old new (Ok u) = (length (old.text ++ text) ≤ old.limit) × (new ≡ printed (old.text ++ text) old.limit)
PrintsWhole text old new (Err Output) = (old.limit < length (old.text ++ text)) × (new ≡ old)
PrintsWhole text old new (Err Memory) = LacksRoom text old × (new ≡ old)

-- a command's status, and what it prints
pub record Answer : Type 0 where
  pub status : ℕ
  pub text : List ℕ

abbrev pub answer : ℕ → List ℕ → Answer
answer status text = record { status = status; text = text }

-- a command answers so, or its text doesn't fit, or memory was refused
abbrev pub Answers : Answer → Printed → Printed → Result ℕ PrintFault → Type 0
Answers a old new (Ok status) = (status ≡ a.status) × Prints a.text old new (Ok tt)
Answers a old new (Err fault) = Prints a.text old new (Err fault)

-- true has status 0
abbrev pub status_if : Bool → ℕ
status_if holds = if holds then 0 else 1
