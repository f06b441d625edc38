use Rattle.std.proofs.Common.{refl, sym, ap, append-nil}
use Rattle.hush_syntax.specs.Builders.{waits_of}
use Rattle.hush_syntax.proofs.Building.{same-members}
use Rattle.hush_syntax.proofs.table.Builder.settle_links.Goals as goal

pub returns : goal.returns
returns c = (
  c.in_ok-block.ensures.first,
  c.in_ok-block.ensures.len,
  refl,
  same-members _ _ _ _ _ _ _ _ (sym (append-nil c.args.self.now.table.words.items)) (sym (append-nil c.args.self.now.table.chains.items)) c.in_ok-block.ensures.table (sym (append-nil c.args.self.now.table.branches.items)),
  ap (λ l. waits_of c.args.self.now.waiting.chains.items l c.args.self.now.waiting.branches.items) c.in_ok-block.ensures.waiting,
)
