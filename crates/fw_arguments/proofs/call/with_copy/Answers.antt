use Rattle.std.proofs.Common.{Ok, ap, ◌∙◌}
use Rattle.clap.specs.Words.{found_of, rows_of}
use Rattle.fw_arguments.specs.Calls.{job_view, with_files}
use Rattle.fw_arguments.specs.DryRuns.{and_then}
use Rattle.fw_arguments.specs.Words.{either_order}
use Rattle.fw_arguments.proofs.CallLemmas.{with_copy_is}
use Rattle.fw_arguments.proofs.WordLemmas.{order_by_rows}
use Rattle.fw_arguments.proofs.call.with_copy.Goals as goal

pub returns-in-Ok : goal.returns-in-Ok
returns-in-Ok c =
    with_copy_is c.args.order c.args.name.now (rows_of (found_of c.args.found.now)) c.args.image c.args.copy _ _ _ _ _ _ (job_view c.in-Ok.job)
    c.first_or.ensures c.defaults_of.ensures c.locks_of.ensures
    (c.either_order.ensures ∙ ap (either_order c.args.order) (c.chosen_order.ensures ∙ order_by_rows c.args.found.now)) c.is_client.ensures
    c.is_given.ensures c.in-Ok.ensures

pub returns-in-Err : goal.returns-in-Err
returns-in-Err c =
    ap (λ j. and_then j (λ job. Ok (with_files c.args.order c.args.name.now (rows_of (found_of c.args.found.now)) c.args.image c.args.copy job))) c.in-Err.ensures
