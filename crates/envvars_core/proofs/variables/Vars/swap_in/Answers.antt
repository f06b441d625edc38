use Rattle.std.proofs.Common.{◌≡◌, ◌≤◌, ◌<◌, ◌^◌, rules, IsTrue, subst, sym, ap, ◌∙◌, arith}
use Rattle.envimg_core.specs.Environment.{used}
use Rattle.envvars_core.specs.Attributes.{attributes}
use Rattle.envvars_core.specs.Variables.{Contents}
use Rattle.envvars_core.specs.Olds.{restored, goes_in_place}
use Rattle.envvars_core.proofs.RestoreLemmas.{in_place-places, in_place-flags, attributes-restored, size_below}
use Rattle.envvars_core.proofs.variables.Vars.swap_in.Goals as goal

pub swap_all-size-requires-clause-places : goal.swap_all-size-requires-clause-places
swap_all-size-requires-clause-places c = in_place-places c.self.inside.variables c.args.olds.now (subst (λ (s : Contents). IsTrue (goes_in_place s.env c.args.olds.now)) (sym c.self.view_is) c.requires.in_place)

pub invariant_of-self : goal.invariant_of-self
invariant_of-self c =
    let in_place = subst (λ (s : Contents). IsTrue (goes_in_place s.env c.args.olds.now)) (sym c.self.view_is) c.requires.in_place in
    let fits : used (restored c.self.inside.variables c.args.olds.now) ≤ c.self.inside.room = subst (λ (s : Contents). used (restored s.env c.args.olds.now) ≤ s.room) (sym c.self.view_is) c.requires.fits in
    let room : c.self.inside.room < 2 ^ 32 = search rules in
    let size : c.swap_all-size.result ≡ used (restored c.self.inside.variables c.args.olds.now) = size_below (used (restored c.self.inside.variables c.args.olds.now)) (2 ^ 64) c.swap_all-size.result c.swap_all-size.ensures.sized (omega (arith, fits, room)) in
    record {
      sized = size ∙ ap used (sym c.swap_all-size.ensures.restored);
      fits = subst (λ (n : _). n ≤ c.self.inside.room) (sym size) fits;
      parsed = λ x. c.self.invariant.parsed x ∙ attributes-restored c.self.inside.variables c.args.olds.now x (in_place-flags c.self.inside.variables c.args.olds.now in_place) ∙ ap (λ m. attributes m x) (sym c.swap_all-size.ensures.restored);
    }
