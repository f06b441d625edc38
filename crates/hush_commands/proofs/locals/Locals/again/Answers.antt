use Rattle.std.proofs.Common.{ℕ, List, T, sym, ap, subst, ◌∙◌}
use Rattle.std.specs.FinMap as names
use Rattle.std.specs.FinMap.Entries.{is_sorted}
use Rattle.envimg_core.specs.Environment.{bytes_cmp}
use Rattle.hush_commands.proofs.LocalLemmas.{copied_entries}
use Rattle.hush_commands.proofs.locals.Locals.again.Goals as goal

pub invariant_of-result : goal.invariant_of-result
invariant_of-result c =
    subst (λ (es : List (List ℕ × List ℕ)). T (is_sorted bytes_cmp es)) (sym (copied_entries c.self.inside.values.entries c.in_ok-values.values.entries c.in_ok-values.ensures.cases)) c.self.invariant

pub returns : goal.returns
returns c = ap names.from_sorted (copied_entries c.self.inside.values.entries c.in_ok-values.values.entries c.in_ok-values.ensures.cases) ∙ c.self.view_is
