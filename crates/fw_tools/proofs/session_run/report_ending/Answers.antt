use Rattle.std.proofs.Common.{refl}
use Rattle.fw_tools.specs.SessionRun.{text_for}
use Rattle.fw_tools.proofs.SessionRunLemmas.{nothing_told, text_told}
use Rattle.fw_tools.proofs.session_run.report_ending.Goals as goal

pub returns-in-None : goal.returns-in-None
returns-in-None g c = nothing_told (text_for c.args.ending) (g.E.Write.contents c.args.errors.now) (g.E.Write.contents c.args.errors.now) 0 c.in-None.ensures refl refl

pub returns-in-Some : goal.returns-in-Some
returns-in-Some g c = text_told c.in-Some.text.now (text_for c.args.ending) (g.E.Write.contents c.args.errors.now) (g.E.Write.contents c.say.new.errors) 1 c.in-Some.ensures c.say.ensures refl
