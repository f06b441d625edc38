use Rattle.std.proofs.Common.{ap, sym, ◌∙◌}
use Rattle.env_requests.proofs.ObeyLemmas.{lines_begin, lines_go_on}
use Rattle.env_requests.proofs.obedience.listing.Goals as goal

pub loop-line-init : goal.loop-line-init
loop-line-init c = lines_begin _ _ _ c.new-text.ensures.items (c.into_iter-line-iterator.ensures.into_iter_gives ∙ c.lines-line-items.ensures.lines)
