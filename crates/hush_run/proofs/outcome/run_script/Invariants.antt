use Rattle.std.proofs.Common.{◌≤◌, ◌-◌}
use Rattle.hush_syntax.specs.Scripts.{tree_of}
use Rattle.hush_run.specs.Advances.{IsReady}
use Rattle.hush_run.specs.Steps.{state_of, rules_of}
use Rattle.hush_run.proofs.AdvanceLemmas.{Same}
use Rattle.hush_run.proofs.outcome.run_script.Given as goal

abbrev pub invariant-loop-next : goal.invariant-loop-next
invariant-loop-next l = record {
  ready : IsReady (rules_of l.given) l.calls l.frames.frames l.frames.capacity l.due;
  same : Same (rules_of l.given) (tree_of l.script) (state_of l.initial.session l.initial.progress) l.calls l.frames.frames l.due (state_of l.session l.progress);
  steps : l.progress.steps ≤ l.given.limits.steps;
}

abbrev pub decreases-loop-next : goal.decreases-loop-next
decreases-loop-next l = l.given.limits.steps - l.progress.steps
