use Rattle.std.proofs.Common.{◌≡◌, ℕ, ◌+◌, ◌≤◌, SomeIff, Some, option_copied, ap, sym, subst, ◌∙◌}
use Rattle.envimg_core.specs.Environment.{used, pair_size}
use Rattle.envimg_core.specs.Pieces.{with_value}
use Rattle.envvars_core.specs.Variables.{Contents}
use Rattle.envvars_core.proofs.SizeLemmas.{used-with_value}
use Rattle.envvars_core.proofs.variables.Vars.used_after.Goals as goal

pub returns-in-Some : goal.returns-in-Some
returns-in-Some c =
    let n = c.args.name.now in
    let v = c.in-Some.value.now in
    let size : c.used_without-others.result + pair_size (n, v) ≡ used (with_value c.args.self.now.env n (option_copied c.args.new)) =
    ap (λ s. s + pair_size (n, v)) c.used_without-others.ensures.without ∙ sym (used-with_value c.args.self.now.env n (Some v)) ∙ ap (λ o. used (with_value c.args.self.now.env n (option_copied o))) (sym c.in-Some.is) in
    subst (λ (x : ℕ). SomeIff c.size_with.result (x ≤ c.args.self.now.room) x) size (subst (λ (s : Contents). SomeIff c.size_with.result (c.used_without-others.result + pair_size (n, v) ≤ s.room) (c.used_without-others.result + pair_size (n, v))) c.self.view_is c.size_with.ensures)
