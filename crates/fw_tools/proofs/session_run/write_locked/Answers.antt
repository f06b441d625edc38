use Rattle.fw_tools.specs.declared.explains.Explains.TheVariants as line
use Rattle.fw_tools.specs.declared.halt.Halt.TheVariants as halt
use Rattle.fw_tools.proofs.SaidLemmas.{halt_said, said_then, waited_said}
use Rattle.fw_tools.proofs.SessionRunLemmas.{written_after}
use Rattle.fw_tools.proofs.session_run.write_locked.Goals as goal

pub returns-in-Ok-clause-said : goal.returns-in-Ok-clause-said
returns-in-Ok-clause-said g c = written_after c.write_back.result c.args.source.now c.args.stored.now _ _ _ c.lock_copies.ensures.waited c.write_back.ensures.said

pub returns-in-Err-clause-said : goal.returns-in-Err-clause-said
returns-in-Err-clause-said g c = said_then _ _ _ (waited_said _ _ c.lock_copies.ensures.waited) (halt_said line.Nothing (halt.Files c.in-Err.stop) _ _ c.say_halt.ensures)
