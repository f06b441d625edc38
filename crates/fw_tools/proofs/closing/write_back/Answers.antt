use Rattle.fw_tools.specs.declared.halt.Halt.TheVariants as halt
use Rattle.fw_tools.proofs.SaidLemmas.{front_said, halt_said, said_then}
use Rattle.fw_tools.proofs.closing.write_back.Goals as goal

pub returns-in-Err-clause-said : goal.returns-in-Err-clause-said
returns-in-Err-clause-said g c = said_then _ _ _ (front_said _ _ _ c.say.ensures) (halt_said c.args.explains (halt.Files c.in-Err.stop) _ _ c.say_halt.ensures)
