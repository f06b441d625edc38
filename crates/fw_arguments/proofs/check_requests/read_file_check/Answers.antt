use Rattle.std.proofs.Common.{map, sym, ◌∙◌}
use Rattle.clap.specs.Words.{found_of, rows_of}
use Rattle.fw_arguments.proofs.CallLemmas.{refused_file}
use Rattle.fw_arguments.proofs.check_requests.read_file_check.Goals as goal

pub returns-then-needs_environment : goal.returns-then-needs_environment
returns-then-needs_environment c =
    refused_file (rows_of (found_of c.args.found.now)) (map (λ p. p.now) c.args.paths.now) _ c.of.ensures (sym c.needs_environment.ensures ∙ c.if-needs_environment.true)
