-- What is wrong with a source (docs/texts.md, "A source of U-Boot").
use Rattle.std.specs.Prelude.{◌≡◌, ◌≢◌, List, ℕ, Result, Err, codes}
use Rattle.env_source.specs.declared.source_fault.Flaw.{Flaw}
use Rattle.env_source.specs.declared.source_fault.Flaw.TheVariants as flaw
use Rattle.env_source.specs.declared.source_fault.SourceFault.{SourceFault}

-- what a flaw is called in a message
abbrev pub flaw_text : Flaw → List ℕ
flaw_text flaw.Nul = codes "a byte 0"
flaw_text flaw.CarriageReturn = codes "a carriage return"
flaw_text flaw.Directive = codes "a line for the C preprocessor, which has to be run before"
flaw_text flaw.Comment = codes "a comment for the C preprocessor, which has to be run before"
flaw_text flaw.Backslash = codes "a backslash, which U-Boot's build changes"
flaw_text flaw.Tab = codes "a tab in the name"
flaw_text flaw.Digit = codes "a name that begins with a digit from 0 to 7, which U-Boot's build loses"
flaw_text flaw.NoName = codes "no name before +="
flaw_text flaw.NoAddition = codes "nothing after +="
flaw_text flaw.NoVariable = codes "no variable before this line"
flaw_text flaw.Lost = codes "two variables without a value at the end, by which U-Boot's build loses all"
flaw_text flaw.Memory = codes "out of memory"

-- the flaw is the definition's, unless memory was refused
abbrev pub IsFlawOf : {X : Type 0} → Result X Flaw → Flaw → Type 0
IsFlawOf outcome found = found ≢ flaw.Memory → outcome ≡ Err found

-- the fault is the definition's, unless memory was refused
abbrev pub IsFaultOf : {X : Type 0} → Result X SourceFault → SourceFault → Type 0
IsFaultOf outcome found = found.flaw ≢ flaw.Memory → outcome ≡ Err found
