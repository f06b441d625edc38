use Rattle.std.proofs.Common.{ap, sym, ◌∙◌}
use Rattle.std.specs.FinMap.{entries}
use Rattle.std.specs.List.{list_any}
use Rattle.fw_check.specs.Knowing.{is_recut, names_by, rereads}
use Rattle.fw_check.specs.NameSets.{set_of, with_all}
use Rattle.fw_check.proofs.NameLemmas.{all-among}
use Rattle.fw_check.proofs.reread.RereadNames.of.Goals as goal

pub returns-clause-reread : goal.returns-clause-reread
returns-clause-reread c =
    ap (λ ps. with_all (set_of c.loop-name.reread) (names_by (list_any rereads) ps)) (sym c.in-None.ensures.steps.0)
    ∙ c.loop-name.invariant.reread ∙ all-among (names_by (list_any rereads) (entries c.args.vars.now.env))

pub returns-clause-recut : goal.returns-clause-recut
returns-clause-recut c =
    ap (λ ps. with_all (set_of c.loop-name.recut) (names_by is_recut ps)) (sym c.in-None.ensures.steps.0)
    ∙ c.loop-name.invariant.recut ∙ all-among (names_by is_recut (entries c.args.vars.now.env))
