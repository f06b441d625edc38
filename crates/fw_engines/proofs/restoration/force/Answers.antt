use Rattle.std.proofs.Common.{Err, ap, ◌∙◌}
use Rattle.fw_engines.specs.Restoration.{write_view}
use Rattle.fw_engines.proofs.RestorationLemmas.{forced_change_of}
use Rattle.fw_engines.proofs.restoration.force.Goals as goal

pub returns-in-Err-Memory-clause-growing : goal.returns-in-Err-Memory-clause-growing
returns-in-Err-Memory-clause-growing c =
    forced_change_of c.args.session.now (write_view c.args.write.now) c.write.result c.write.ensures.refused c.write.ensures.idle (c.in-Err-Memory.is ∙ ap Err c.in-Err-Memory.field-0-is)
