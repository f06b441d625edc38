use Rattle.hush_commands.specs.Entries.{bytes_view}
use Rattle.hush_commands.proofs.EntryLemmas.{map-empty}
use Rattle.hush_commands.proofs.locals.Locals.new.Goals as goal

pub returns : goal.returns
returns c = map-empty bytes_view c.new.result.entries c.new.ensures.empty
