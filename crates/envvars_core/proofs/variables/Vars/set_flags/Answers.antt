use Rattle.std.proofs.Common.{◌≤◌, option_copied, ap, sym, subst, ◌∙◌}
use Rattle.envimg_core.specs.Environment.{used}
use Rattle.envimg_core.specs.Pieces.{with_value}
use Rattle.envvars_core.specs.Attributes.{attributes, attributes_in, flags_name}
use Rattle.envvars_core.specs.Variables.{Contents}
use Rattle.envvars_core.proofs.KeptLemmas.{attributes_set}
use Rattle.envvars_core.proofs.variables.Vars.set_flags.Goals as goal

pub invariant_of-self-2 : goal.invariant_of-self-2
invariant_of-self-2 c =
    let v = option_copied c.args.value in
    record {
      sized = c.requires.sized ∙ ap (λ (s : Contents). used (with_value s.env flags_name v)) (sym c.self.view_is) ∙ ap used (sym c.in_ok-change.ensures.ok);
      fits = subst (λ (s : Contents). c.args.size ≤ s.room) (sym c.self.view_is) c.requires.fits;
      parsed = λ x. c.in_ok-flags.ensures x ∙ ap (λ text. attributes_in text x) c.text_of.ensures ∙ attributes_set c.self.inside.variables v x ∙ ap (λ m. attributes m x) (sym c.in_ok-change.ensures.ok);
    }
