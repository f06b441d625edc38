use Rattle.std.proofs.Common.{take}
use Rattle.env_requests.specs.Views.{rules_of}
use Rattle.hush_run.specs.Meaning.{bodies_of}
use Rattle.fw_session.specs.BlockFaults.{TellsFaults}
use Rattle.fw_session.specs.Talks.{HandlesAll}
use Rattle.fw_session.proofs.input.handle_piece.Given as goal

abbrev pub invariant-loop-byte : goal.invariant-loop-byte
invariant-loop-byte g l =
    HandlesAll (rules_of l.rules) (take l.byte-index l.piece) l.initial.talk l.talk (g.W.Write.contents l.initial.output) (g.W.Write.contents l.output)
    × TellsFaults (bodies_of l.rules.shell) g.F.Write.contents l.initial.faults l.faults
