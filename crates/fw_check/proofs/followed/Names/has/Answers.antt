use Rattle.std.proofs.Common.{ap, ◌∙◌}
use Rattle.fw_check.specs.Following.{is_among}
use Rattle.fw_check.proofs.followed.Names.has.Goals as goal

pub returns : goal.returns
returns c = c.has.ensures ∙ c.self.invariant c.args.name.now ∙ ap (λ ns. is_among ns c.args.name.now) c.self.view_is
