use Rattle.std.proofs.Common.{sym, ◌∙◌}
use Rattle.fw_check.specs.NameSets.{set_of}
use Rattle.fw_check.proofs.FollowLemmas.{begun-adds-nothing, begun-after}
use Rattle.fw_check.proofs.following.Followed.follow_beginning.Goals as goal

pub returns-then-has : goal.returns-then-has
returns-then-has c =
    begun-adds-nothing c.args.self.now c.self.inside.vars.now.env c.self.inside.sorted.now c.self.inside.names (set_of c.self.inside.begun) c.args.front.now c.self.view_is c.self.invariant (sym c.has.ensures ∙ c.if-has.true)

pub invariant_of-self : goal.invariant_of-self
invariant_of-self c =
    let now = c.self-2.inside in
    begun-after c.args.self.now now.vars.now.env now.sorted.now now.names (set_of now.begun) (set_of c.add.new.self) c.args.front.now c.add.result c.self-2.invariant
    (c.self-2.view_is ∙ c.in_ok-follow_sorted.ensures) c.add.ensures.added c.add.ensures.kept
