use Rattle.std.proofs.Common.{[], ◌∷◌, ap, ◌∙◌, sym}
use Rattle.fw_check.specs.Commands.{command_sentence, kind_of}
use Rattle.fw_check.specs.ReportLines.{found_at}
use Rattle.fw_check.specs.Found.{found_more}
use Rattle.fw_check.proofs.FoundLemmas.{ok-then}
use Rattle.fw_check.proofs.command_names.add_command.Goals as goal

pub returns-in-Function : goal.returns-in-Function
returns-in-Function c =
    ok-then c.add-in-Function.result _ _
    (λ e. e ∙ ap (λ f. found_more c.args.findings.now (found_at c.args.count (kind_of f) (command_sentence f c.args.name.now) ∷ [])) (sym c.in-Function.is))
    c.add-in-Function.ensures
