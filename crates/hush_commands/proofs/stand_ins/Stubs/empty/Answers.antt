use Rattle.hush_commands.specs.Entries.{role_view}
use Rattle.hush_commands.proofs.EntryLemmas.{map-empty}
use Rattle.hush_commands.proofs.stand_ins.Stubs.empty.Goals as goal

pub returns : goal.returns
returns c = map-empty role_view c.new.result.entries c.new.ensures.empty
