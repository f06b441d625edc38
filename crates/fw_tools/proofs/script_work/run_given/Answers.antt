use Rattle.hush_commands.specs.Hardware.{hardware}
use Rattle.hush_syntax.specs.Scripts.{tree_of}
use Rattle.fw_tools.proofs.script_work.run_given.Goals as goal

pub returns : goal.returns
returns g c =
    let given = c.in_ok-hardware.hardware in
    (hardware given.board given.stand_ins, tree_of c.in_ok-script.script, c.in_ok-hardware.ensures.read, c.in_ok-script.ensures, c.run_script.ensures)
