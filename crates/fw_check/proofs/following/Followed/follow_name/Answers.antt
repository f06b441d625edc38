use Rattle.fw_check.specs.NameSets.{set_of}
use Rattle.fw_check.proofs.FollowLemmas.{begun-follow}
use Rattle.fw_check.proofs.following.Followed.follow_name.Goals as goal

pub invariant_of-self : goal.invariant_of-self
invariant_of-self c =
    begun-follow c.self.inside.vars.now.env c.self.inside.sorted.now c.self.inside.names c.follow.new.self (set_of c.self.inside.begun) c.args.name.now c.follow.result c.self.invariant c.follow.ensures.added c.follow.ensures.kept
