use Rattle.std.proofs.Common.{ℕ, List, Vec, ap, subst, sym, ◌∙◌}
use Rattle.std.specs.declared.alloc.Global.{Global}
use Rattle.std.specs.FinMap as names
use Rattle.hush_commands.specs.Entries.{Entry, bytes_view}
use Rattle.hush_commands.proofs.EntryLemmas.{AreSorted, insert-value, map_of, sorted-insert}
use Rattle.hush_commands.proofs.locals.Locals.set.Goals as goal

pub invariant_of-self : goal.invariant_of-self
invariant_of-self c =
    subst (λ (es : List (Entry (Vec ℕ Global))). AreSorted bytes_view es) (sym c.in-Ok.ensures.entries)
    (sorted-insert bytes_view c.self.inside.values.entries c.in_ok-name.name c.in_ok-value.value c.self.invariant)

pub returns-in-Ok-clause-ok : goal.returns-in-Ok-clause-ok
returns-in-Ok-clause-ok c =
    ap (map_of bytes_view) c.in-Ok.ensures.entries
    ∙ insert-value bytes_view c.self.inside.values.entries c.args.self.now c.in_ok-name.name c.in_ok-value.value c.self.invariant c.self.view_is
    ∙ ap (λ (n : List ℕ). names.insert c.args.self.now n c.in_ok-value.value.items) c.in_ok-name.ensures.items
    ∙ ap (λ (v : List ℕ). names.insert c.args.self.now c.args.name.now v) c.in_ok-value.ensures.items
