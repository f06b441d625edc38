use Rattle.fw_check.specs.NameSets.{set_of}
use Rattle.fw_check.proofs.FollowLemmas.{begun-none}
use Rattle.fw_check.proofs.following.Followed.new.Goals as goal

pub invariant_of-result : goal.invariant_of-result
invariant_of-result c = begun-none c.args.vars.now.env c.args.sorted.now c.new.result (set_of c.new-2.result) c.requires c.new-2.ensures
