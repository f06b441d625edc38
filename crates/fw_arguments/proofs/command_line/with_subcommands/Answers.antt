use Rattle.std.proofs.Common.{◌∙◌, sym, subst}
use Rattle.clap.specs.Words.{app_of}
use Rattle.fw_arguments.specs.Words.{IsTool, app_of_row, with_called}
use Rattle.fw_arguments.specs.declared.program_name.Subcommand.TheVariants as sub
use Rattle.fw_arguments.proofs.WordLemmas.{fold_more, with_tool}
use Rattle.fw_arguments.proofs.command_line.with_subcommands.Goals as goal

pub loop-subcommand-preserved : goal.loop-subcommand-preserved
loop-subcommand-preserved c =
    with_tool _ _ _ _ _ c.loop-subcommand.invariant (subst (λ k. IsTool (app_of_row k) c.in_ok-command_of.field-0) c.row.ensures c.in_ok-command_of.ensures) c.in_ok-built.ensures
    ∙ sym (fold_more with_called (λ s. s) (app_of c.args.command) c.args.subcommands.now c.loop-subcommand.subcommand-index sub.Printenv c.loop-subcommand-test.true)
