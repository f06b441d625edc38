use Rattle.std.proofs.Common.{ap, ◌∙◌}
use Rattle.clap.specs.Words.{found_of, rows_of}
use Rattle.fw_arguments.specs.DryRuns.{number_in}
use Rattle.fw_arguments.specs.Values.{first_or}
use Rattle.fw_arguments.proofs.DryRunLemmas.{number_found, number_wrong}
use Rattle.fw_arguments.proofs.dry_runs.number.Goals as goal

pub returns-in-Some-clause-read : goal.returns-in-Some-clause-read
returns-in-Some-clause-read c =
    number_found c.args.bad.now c.args.most c.in-Some.number c.as_bytes.result.now (first_or c.args.usual.now c.args.id.now (rows_of (found_of c.args.found.now))) (c.as_bytes.ensures.value ∙ c.first_or-word.ensures) c.in-Some.ensures.read

pub returns-in-None-clause-read : goal.returns-in-None-clause-read
returns-in-None-clause-read c =
    number_wrong c.args.bad.now c.args.most c.first_or-word.result.now (first_or c.args.usual.now c.args.id.now (rows_of (found_of c.args.found.now))) c.first_or-word.ensures
    (c.in-None.ensures.read ∙ ap (number_in c.args.most) c.as_bytes.ensures.value)
