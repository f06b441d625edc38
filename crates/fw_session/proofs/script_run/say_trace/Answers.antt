use Rattle.fw_session.proofs.StreamLemmas.{as_far_as}
use Rattle.fw_session.proofs.script_run.say_trace.Goals as goal

pub returns : goal.returns
returns g c = (_, as_far_as c.write_two.result _ _ _ c.write_two.ensures)
