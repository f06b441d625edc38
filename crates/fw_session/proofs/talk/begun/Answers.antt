use Rattle.std.proofs.Common.{ap}
use Rattle.fw_session.specs.NamedSessions.{named_session}
use Rattle.fw_session.proofs.talk.begun.Goals as goal

pub returns-clause-session : goal.returns-clause-session
returns-clause-session c = ap (named_session c.args.session) c.unnamed-names.ensures
