use Rattle.fw_files.proofs.OpeningLemmas.{accepted_is}
use Rattle.fw_files.proofs.opening.open_with.Goals as goal

pub returns-in-Ok-clause-opened : goal.returns-in-Ok-clause-opened
returns-in-Ok-clause-opened g c = accepted_is _ c.accepted.result c.args.source.now _ c.args.spares _ c.in-Ok.ensures.opens c.accepted.ensures.opened
