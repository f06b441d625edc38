use Rattle.std.proofs.Common.{sym, ◌∙◌}
use Rattle.clap.specs.Words.{found_of, rows_of}
use Rattle.fw_arguments.proofs.CallLemmas.{twice_refused}
use Rattle.fw_arguments.proofs.report.read_asked.Goals as goal

pub returns-then-reads_twice : goal.returns-then-reads_twice
returns-then-reads_twice c =
    twice_refused c.args.order c.args.name.now _ (rows_of (found_of c.args.found.now)) c.of.ensures (sym c.reads_twice.ensures ∙ c.if-reads_twice.true)
