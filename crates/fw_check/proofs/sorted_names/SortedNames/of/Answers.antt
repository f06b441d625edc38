use Rattle.fw_check.proofs.SortedLemmas.{names-ascend}
use Rattle.fw_check.proofs.sorted_names.SortedNames.of.Goals as goal

pub invariant_of-result : goal.invariant_of-result
invariant_of-result c = names-ascend c.args.vars.now.env c.loop-name.names.items c.loop-name.name-iterator c.in-None.ensures.steps.0 c.loop-name.invariant
