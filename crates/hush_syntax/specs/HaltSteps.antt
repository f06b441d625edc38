-- What a step of the search for a halt does.
use Rattle.std.specs.Prelude.{◌≡◌, ◌≢◌, Result, Ok, Err}
use Rattle.hush_syntax.specs.declared.syntax_fault.FaultKind.{FaultKind}
use Rattle.hush_syntax.specs.declared.syntax_fault.FaultKind.TheVariants.{Memory}
use Rattle.hush_syntax.specs.Halts.{Position, Step}

-- it leads from one position to another, or is refused, and then it moves nothing
abbrev pub Leads : Step → Position → Position → Result (Unit {0}) FaultKind → Type 0
Leads s old new (Ok done) = s ≡ Ok new
Leads s old new (Err kind) = kind ≢ Memory → (s ≡ Err kind) × (new ≡ old)
