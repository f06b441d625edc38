-- What the code expands words with.
use Rattle.hush_commands.specs.Expansion.{Known}
use Rattle.hush_commands.specs.declared.expansion.Scope.{Scope}

abbrev pub known : Scope → Known
known s = record { env = s.vars.now.env; locals = s.locals.now; status = s.status }
