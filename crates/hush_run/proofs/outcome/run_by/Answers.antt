use Rattle.std.proofs.Common.{arith, ap}
use Rattle.hush_syntax.specs.Scripts.{tree_of}
use Rattle.hush_run.specs.Meaning.{State}
use Rattle.hush_run.specs.Runs.{reason_of}
use Rattle.hush_run.specs.Steps.{state_of, rules_of}
use Rattle.hush_run.proofs.OutcomeLemmas.{runs_so, ends_so, departs_so}
use Rattle.hush_run.proofs.outcome.run_by.Goals as goal

pub run_script-ending-requires-clause-steps : goal.run_script-ending-requires-clause-steps
run_script-ending-requires-clause-steps c = let e = ap (λ (s : State). s.steps) (c.new-progress.ensures c.args.session.now) in omega (arith, e)

pub returns-clause-runs : goal.returns-clause-runs
returns-clause-runs c =
    runs_so (rules_of c.args.given.now) (tree_of c.args.script.now) c.args.session.now (state_of c.args.session.now c.new-progress.result) (state_of c.run_script-ending.new.session c.run_script-ending.new.progress) c.run_script-ending.result.0 c.into_text.result c.run_script-ending.result.1 (reason_of c.run_script-ending.result.0)
    (c.new-progress.ensures c.args.session.now) c.run_script-ending.ensures c.into_text.ensures

pub returns-clause-place : goal.returns-clause-place
returns-clause-place c =
    ends_so (rules_of c.args.given.now) (tree_of c.args.script.now) c.args.session.now (state_of c.args.session.now c.new-progress.result) (state_of c.run_script-ending.new.session c.run_script-ending.new.progress) c.run_script-ending.result.1 (reason_of c.run_script-ending.result.0)
    (c.new-progress.ensures c.args.session.now) c.run_script-ending.ensures

pub returns-clause-departure : goal.returns-clause-departure
returns-clause-departure c =
    departs_so (rules_of c.args.given.now) (tree_of c.args.script.now) c.args.session.now (state_of c.args.session.now c.new-progress.result) (state_of c.run_script-ending.new.session c.run_script-ending.new.progress) c.run_script-ending.result.1 (reason_of c.run_script-ending.result.0)
    (c.new-progress.ensures c.args.session.now) c.run_script-ending.ensures
