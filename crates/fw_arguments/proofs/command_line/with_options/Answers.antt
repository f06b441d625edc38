use Rattle.std.proofs.Common.{Bor, List, ℕ, sym, subst}
use Rattle.clap.specs.Words.{app_of}
use Rattle.fw_arguments.specs.Words.{IsTool, with_row}
use Rattle.fw_arguments.specs.Table.{row_view}
use Rattle.fw_arguments.proofs.WordLemmas.{fold_more, with_one_more}
use Rattle.fw_arguments.proofs.command_line.with_options.Goals as goal

pub loop-row-preserved : goal.loop-row-preserved
loop-row-preserved c =
    subst (λ a. IsTool a c.in_ok-built.built) (sym (fold_more with_row (row_view (λ (t : Bor (List ℕ)). t.now)) (app_of c.args.command) c.args.options.now c.loop-row.row-index _ c.loop-row-test.true))
    (with_one_more _ _ _ _ _ c.loop-row.invariant c.in_ok-built.ensures c.in_ok-arg_of.ensures.rule c.in_ok-arg_of.ensures.local)
