use Rattle.std.proofs.Common.{map, ap, sym, ◌∙◌}
use Rattle.fw_check.specs.Following.{is_among}
use Rattle.fw_check.proofs.followed.Names.new.Goals as goal

pub invariant_of-result : goal.invariant_of-result
invariant_of-result c name = (λ i. c.new-2.ensures i name) ∙ ap (λ vs. is_among (map (λ n. n.items) vs) name) (sym c.new.ensures.items)
