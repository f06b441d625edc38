-- What `saveenv` prints and leaves (docs/runs.md, "Commands").
use Rattle.std.specs.Prelude.{◌≡◌, ℕ, ◌<◌, ◌≤◌, List, ◌++◌, codes, length, Result, Ok, Err}
use Rattle.env_session.specs.Session.{Held, saved, side_of}
use Rattle.env_session.specs.declared.session.Side.{Side}
use Rattle.env_session.specs.declared.session.Side.TheVariants.{First, Second}
use Rattle.hush_commands.specs.declared.output.PrintFault.{PrintFault}
use Rattle.hush_commands.specs.declared.output.PrintFault.TheVariants.{Output, Memory}
use Rattle.hush_commands.specs.Output.{Printed, printed}

abbrev pub saved_line : Side → List ℕ
saved_line First = codes "Saved copy 1\n"
saved_line Second = codes "Saved copy 2\n"

-- it is saved and reported, or nothing has changed: the text doesn't fit, or it fits and memory was refused
abbrev pub Saves : Held → Held → Printed → Printed → Result (Unit {0}) PrintFault → Type 0
Saves held saved_held old new (Ok u) = (saved_held ≡ saved held) × (new ≡ printed (old.text ++ saved_line (side_of held)) old.limit)
Saves held after old new (Err Output) = (old.limit < length (old.text ++ saved_line (side_of held))) × (after ≡ held) × (new ≡ old)
Saves held after old new (Err Memory) = (length (old.text ++ saved_line (side_of held)) ≤ old.limit) × (after ≡ held) × (new ≡ old)
