use Rattle.std.proofs.Common.{ap, sym, ◌∙◌}
use Rattle.fw_arguments.specs.ProgramNames.{called_in}
use Rattle.fw_arguments.proofs.WordLemmas.{called_found}
use Rattle.fw_arguments.proofs.arguments.called.Goals as goal

pub returns-in-Fwenv : goal.returns-in-Fwenv
returns-in-Fwenv c =
    called_found c.args.matches.now c.subcommand.result c.subcommand.ensures.name c.subcommand.ensures.rows ∙ ap (λ u. called_in u c.args.matches.now) (sym c.in-Fwenv.is)

pub returns-in-FwenvWith : goal.returns-in-FwenvWith
returns-in-FwenvWith c =
    called_found c.args.matches.now c.subcommand-in-FwenvWith.result c.subcommand-in-FwenvWith.ensures.name c.subcommand-in-FwenvWith.ensures.rows ∙ ap (λ u. called_in u c.args.matches.now) (sym c.in-FwenvWith.is)
