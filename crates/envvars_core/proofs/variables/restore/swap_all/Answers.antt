use Rattle.std.proofs.Common.{◌≡◌, ◌%◌, ◌^◌, ◌<◌, IfSome, IsSome, subst, sym, ap, ◌∙◌}
use Rattle.std.specs.FinMap as env
use Rattle.envimg_core.specs.Environment.{Environment, used}
use Rattle.envimg_core.specs.Pieces.{with_value}
use Rattle.envvars_core.specs.Kept.{old_value}
use Rattle.envvars_core.specs.Olds.{OldValues, restored}
use Rattle.envvars_core.specs.Steps.{HavePlaces}
use Rattle.envvars_core.proofs.RestoreLemmas.{restored-empty, restored-taken, place-taken, places-taken, taken-fewer}
use Rattle.envvars_core.proofs.variables.restore.swap_all.Goals as goal

pub returns-in-None-clause-restored : goal.returns-in-None-clause-restored
returns-in-None-clause-restored c = sym (restored-empty c.kept.variables) ∙ ap (restored c.kept.variables) (sym c.in-None.ensures.taken.0) ∙ c.kept.invariant.left

pub returns-in-None-clause-sized : goal.returns-in-None-clause-sized
returns-in-None-clause-sized c = c.kept.invariant.sized ∙ ap (λ (m : Environment). used m % 2 ^ 64) (returns-in-None-clause-restored c)

pub swap_one-size-requires-clause-place : goal.swap_one-size-requires-clause-place
swap_one-size-requires-clause-place c =
    subst (λ n. IfSome (old_value c.in-Some.old) (λ v. IsSome (env.get c.kept.variables n))) (sym c.deref.ensures.value)
    (place-taken c.kept.variables c.kept.olds c.in-Some.name.items (old_value c.in-Some.old) c.kept.invariant.places c.in-Some.ensures.taken.0)

pub kept-smaller : goal.kept-smaller
kept-smaller c = subst (λ (o : OldValues). env.len o < env.len c.kept.olds) (sym c.in-Some.ensures.taken.1) (taken-fewer c.kept.olds c.in-Some.name.items (old_value c.in-Some.old) c.in-Some.ensures.taken.0)

pub kept-preserved : goal.kept-preserved
kept-preserved c =
    let n = c.in-Some.name.items in
    let old = old_value c.in-Some.old in
    let swapped : c.swap_one-size.new.variables ≡ with_value c.kept.variables n old = c.swap_one-size.ensures.swapped ∙ ap (λ q. with_value c.kept.variables q old) c.deref.ensures.value in
    let taken : c.pop.new.self ≡ env.remove c.kept.olds n = c.in-Some.ensures.taken.1 in
    record {
      left = (λ i. restored (swapped i) (taken i)) ∙ restored-taken c.kept.variables c.kept.olds n old c.in-Some.ensures.taken.0 ∙ c.kept.invariant.left;
      sized = c.swap_one-size.ensures.sized ∙ ap (λ (m : Environment). used m % 2 ^ 64) (sym c.swap_one-size.ensures.swapped);
      places =
          subst (λ m. HavePlaces m (env.entries c.pop.new.self)) (sym swapped)
          (subst (λ (o : OldValues). HavePlaces (with_value c.kept.variables n old) (env.entries o)) (sym taken) (places-taken c.kept.variables c.kept.olds n old c.kept.invariant.places));
    }
