use Rattle.std.proofs.Common.{◌-◌}
use Rattle.env_requests.specs.Views.{rules_of}
use Rattle.fw_session.specs.NamedSessions.{unnamed}
use Rattle.hush_run.specs.Meaning.{bodies_of}
use Rattle.fw_session.specs.BlockFaults.{TellsFaults}
use Rattle.fw_session.specs.Talks.{Reading}
use Rattle.fw_session.specs.Ends.{input_limit}
use Rattle.fw_session.proofs.talk.answer_all.Given as goal

abbrev pub invariant-loop-read : goal.invariant-loop-read
invariant-loop-read g l =
    Reading (rules_of l.rules) (unnamed l.fn.session) (g.R.Read.remaining l.initial.input) (g.R.Read.remaining l.input) (g.W.Write.contents l.initial.output) (g.W.Write.contents l.output) l.read l.talk
    × TellsFaults (bodies_of l.rules.shell) g.F.Write.contents l.initial.faults l.faults

abbrev pub decreases-loop-read : goal.decreases-loop-read
decreases-loop-read g l = input_limit - l.read
