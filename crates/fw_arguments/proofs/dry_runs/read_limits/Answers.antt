use Rattle.std.proofs.Common.{◌≡◌, Err, Ok, ap, rules, ◌∙◌}
use Rattle.clap.specs.Words.{found_of, rows_of}
use Rattle.fw_arguments.specs.WordFaults.{fault_text, word_seen}
use Rattle.fw_arguments.proofs.DryRunLemmas.{depth_wrong, limits_found, output_wrong, steps_wrong, word_wrong}
use Rattle.fw_arguments.proofs.dry_runs.read_limits.Goals as goal

pub returns-in_err-steps : goal.returns-in_err-steps
returns-in_err-steps c =
    let same : c.from_residual.result ≡ Err c.in_err-steps.field-0.0 = search rules in
    ap (word_seen (λ l. l)) same ∙ steps_wrong c.args.shell (rows_of (found_of c.args.found.now)) (fault_text c.in_err-steps.field-0.0) c.in_err-steps.ensures.read

pub returns-in_err-depth : goal.returns-in_err-depth
returns-in_err-depth c =
    let same : c.from_residual-in_err-depth.result ≡ Err c.in_err-depth.field-0.0 = search rules in
    ap (word_seen (λ l. l)) same ∙ depth_wrong c.args.shell (rows_of (found_of c.args.found.now)) c.in_ok-steps.steps (fault_text c.in_err-depth.field-0.0) c.in_ok-steps.ensures.read c.in_err-depth.ensures.read

pub returns-in_err-word : goal.returns-in_err-word
returns-in_err-word c =
    let same : c.from_residual-in_err-word.result ≡ Err c.in_err-word.field-0.0 = search rules in
    ap (word_seen (λ l. l)) same ∙ word_wrong c.args.shell (rows_of (found_of c.args.found.now)) c.in_ok-steps.steps c.in_ok-depth.depth (fault_text c.in_err-word.field-0.0) c.in_ok-steps.ensures.read c.in_ok-depth.ensures.read c.in_err-word.ensures.read

pub returns-in_err-output : goal.returns-in_err-output
returns-in_err-output c =
    let same : c.from_residual-in_err-output.result ≡ Err c.in_err-output.field-0.0 = search rules in
    ap (word_seen (λ l. l)) same
    ∙ output_wrong c.args.shell (rows_of (found_of c.args.found.now)) c.in_ok-steps.steps c.in_ok-depth.depth c.in_ok-word.word (fault_text c.in_err-output.field-0.0) c.in_ok-steps.ensures.read c.in_ok-depth.ensures.read c.in_ok-word.ensures.read c.in_err-output.ensures.read

pub returns : goal.returns
returns c =
    ap (λ l. Ok l) c.in-Some.ensures.1
    ∙ limits_found c.args.shell (rows_of (found_of c.args.found.now)) c.in_ok-steps.steps c.in_ok-depth.depth c.in_ok-word.word c.in_ok-output.output c.in_ok-steps.ensures.read c.in_ok-depth.ensures.read c.in_ok-word.ensures.read c.in_ok-output.ensures.read

pub unreachable-requires : goal.unreachable-requires
unreachable-requires c =
    c.in-None.ensures (record {
      steps = c.in_ok-steps.ensures.most;
      depth = c.in_ok-depth.ensures.most;
      word = c.in_ok-word.ensures.most;
      output = c.in_ok-output.ensures.most;
    })
