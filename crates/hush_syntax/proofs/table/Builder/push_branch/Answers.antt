use Rattle.std.proofs.Common.{refl, ap}
use Rattle.hush_syntax.specs.Builders.{waits_of}
use Rattle.hush_syntax.proofs.table.Builder.push_branch.Goals as goal

pub returns : goal.returns
returns c = (refl, ap (λ l. waits_of c.args.self.now.waiting.chains.items c.args.self.now.waiting.links.items l) c.in_ok-push.ensures.items)
