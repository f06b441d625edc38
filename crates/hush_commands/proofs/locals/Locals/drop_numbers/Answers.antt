use Rattle.std.proofs.Common.{rules, ℕ, List, Vec, ap, subst, sym, ◌∙◌}
use Rattle.std.specs.declared.alloc.Global.{Global}
use Rattle.std.proofs.lemmas.Map.Entries.{filter_from_retain_pairs}
use Rattle.hush_commands.specs.Entries.{Entry, bytes_view}
use Rattle.hush_commands.proofs.EntryLemmas.{AreSorted, map_of}
use Rattle.hush_commands.proofs.LocalLemmas.{is_kept, kept_sorted, kept_value}
use Rattle.hush_commands.proofs.locals.Locals.drop_numbers.Goals as goal

pub invariant_of-self : goal.invariant_of-self
invariant_of-self c =
    let left = filter_from_retain_pairs _ (λ f. Unit {0}) (λ e. is_kept e.0.items) (λ g k v b w g' i t. (search rules, search rules, tt)) _ _ _ tt c.retain.ensures.filtered in
    subst (λ (es : List (Entry (Vec ℕ Global))). AreSorted bytes_view es) (sym left) (kept_sorted c.self.inside.values.entries c.self.invariant)

pub returns : goal.returns
returns c =
    let left = filter_from_retain_pairs _ (λ f. Unit {0}) (λ e. is_kept e.0.items) (λ g k v b w g' i t. (search rules, search rules, tt)) _ _ _ tt c.retain.ensures.filtered in
    ap (map_of bytes_view) left ∙ kept_value c.self.inside.values.entries c.args.self.now c.self.invariant c.self.view_is
