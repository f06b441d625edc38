use Rattle.std.proofs.Common.{false, sym}
use Rattle.fw_check.proofs.EntryPlaceLemmas.{spelled-none}
use Rattle.fw_check.proofs.entry_places.EntryPlaces.known.Goals as goal

pub returns-else-self-count-clause-spelled : goal.returns-else-self-count-clause-spelled
returns-else-self-count-clause-spelled c = sym (spelled-none false c.args.self.now.value)
