use Rattle.std.proofs.Common.{ap, sym}
use Rattle.env_requests.specs.Views.{told}
use Rattle.fw_session.specs.Turns.{text_of}
use Rattle.fw_session.proofs.StreamLemmas.{writes_as}
use Rattle.fw_session.proofs.replies.write_reply.Goals as goal

pub returns-in-Ran : goal.returns-in-Ran
returns-in-Ran g c = writes_as _ _ _ _ _ _ c.write_outcome.result (sym (ap (λ v. text_of c.args.session.now.now.env (told v)) c.in-Ran.is)) c.write_outcome.ensures
