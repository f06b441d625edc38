use Rattle.hush_commands.specs.Hardware.{hardware}
use Rattle.hush_commands.proofs.CarryingLemmas.{wrong_use, wrong_use_refused}
use Rattle.hush_commands.proofs.execution.attempt.Goals as goal

pub returns-in-WrongUse-clause-attempts : goal.returns-in-WrongUse-clause-attempts
returns-in-WrongUse-clause-attempts c =
    wrong_use c.args.shell (hardware c.args.board.now c.args.stand_ins.now) c.args.command c.in-WrongUse.called c.bytes-in-WrongUse.result.now c.args.status c.args.session.now
    c.args.output.now c.fail.new.output c.fail.result c.in-WrongUse.is c.bytes-in-WrongUse.ensures c.fail.ensures.answers

pub returns-in-WrongUse-clause-memory : goal.returns-in-WrongUse-clause-memory
returns-in-WrongUse-clause-memory c =
    wrong_use_refused c.args.shell (hardware c.args.board.now c.args.stand_ins.now) c.args.command c.in-WrongUse.called c.bytes-in-WrongUse.result.now c.args.status c.args.session.now
    c.args.output.now c.fail.result c.in-WrongUse.is c.bytes-in-WrongUse.ensures c.fail.ensures.memory
