use Rattle.std.proofs.Common.{ap}
use Rattle.env_session.specs.Session.{Held, undone}
use Rattle.fw_boots.specs.Boots.{outcome_over, power_of}
use Rattle.fw_boots.proofs.powered_board.with_stored.Goals as goal

pub returns : goal.returns
unfolding undone
returns c = ap (λ (h : Held). outcome_over (power_of c.args.boot.now) (undone 0 h)) c.in_ok-session.ensures
