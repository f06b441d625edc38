use Rattle.hush_commands.specs.Hardware.{hardware}
use Rattle.fw_tools.proofs.session_run.talk.Goals as goal

pub returns : goal.returns
returns g c =
    let given = hardware c.in_ok-given.given.board c.in_ok-given.given.stand_ins in
    (given, c.in_ok-given.ensures.read, (c.answer-end.result.ending, c.answer-end.result.read, c.answer-end.result.written, _, c.answer-end.ensures.1, c.leave.ensures))
