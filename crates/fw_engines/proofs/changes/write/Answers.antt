use Rattle.std.proofs.Common.{Err, option_copied, refl, ap, ◌∙◌}
use Rattle.env_session.proofs.LawLemmas.{change_of}
use Rattle.fw_engines.proofs.changes.write.Goals as goal

pub returns-in-Err-Memory-clause-growing : goal.returns-in-Err-Memory-clause-growing
returns-in-Err-Memory-clause-growing c =
    let new = option_copied c.args.new in
    change_of c.args.session.now c.args.name.now new (c.args.name.now, new) c.write.result refl refl c.write.ensures.refused c.write.ensures.idle (c.in-Err-Memory.is ∙ ap Err c.in-Err-Memory.field-0-is)
