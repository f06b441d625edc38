use Rattle.std.proofs.Common.{refl, ap}
use Rattle.hush_syntax.specs.Builders.{waits_of}
use Rattle.hush_syntax.proofs.table.Builder.push_chain.Goals as goal

pub returns : goal.returns
returns c = (refl, ap (λ l. waits_of l c.args.self.now.waiting.links.items c.args.self.now.waiting.branches.items) c.in_ok-push.ensures.items)
