use Rattle.std.proofs.Common.{rules as allowed, ◌≡◌, ◌+◌, ◌∷◌, Err, add-one}
use Rattle.hush_commands.specs.Carrying.{deletion_of}
use Rattle.hush_run.specs.Steps.{ending_of_print}
use Rattle.hush_run.specs.Meaning.{deletions}
use Rattle.hush_run.specs.Steps.{state_of, rules_of}
use Rattle.hush_run.proofs.StepLemmas.{no_step, unprinted, delete_halts, delete_stops, delete_done}
use Rattle.hush_run.proofs.steps.delete_step.Goals as goal

pub returns-in_err-may_step : goal.returns-in_err-may_step
returns-in_err-may_step c =
    let r = rules_of c.args.given.now in
    let s = state_of c.args.session.now c.args.progress.now in
    let same : c.from_residual.result ≡ Err c.in_err-may_step.field-0.0 = search allowed in
    rw same (λ rest. no_step r (λ q begin. deletions q c.args.force c.args.failed (c.args.name.now ∷ rest)) (λ failed q begin. deletions q c.args.force failed rest) s c.in_err-may_step.field-0.0 c.in_err-may_step.ensures.may
    (delete_halts r c.args.name.now rest c.args.force c.args.failed s))

pub returns-in_err-progress : goal.returns-in_err-progress
returns-in_err-progress c =
    let r = rules_of c.args.given.now in
    let s = state_of c.args.session.now c.args.progress.now in
    let same : c.from_residual-in_err-progress.result ≡ Err (ending_of_print c.in_err-progress.field-0.0) = search allowed in
    rw same (λ rest. unprinted r (λ q begin. deletions q c.args.force c.args.failed (c.args.name.now ∷ rest)) (λ failed q begin. deletions q c.args.force failed rest) (deletion_of c.args.session.now c.args.name.now c.args.force c.args.failed) s c.delete.new.session c.delete.new.output c.in_err-progress.field-0.0 c.in_err-progress.ensures
    (λ begin. delete_stops r c.args.name.now rest c.args.force c.args.failed s begin c.in_ok-may_step.ensures.may))

pub returns : goal.returns
returns c =
    let r = rules_of c.args.given.now in
    let s = state_of c.args.session.now c.args.progress.now in λ rest.
    delete_done r c.args.name.now rest c.args.force c.args.failed s c.delete.new.session c.delete.new.output c.in_ok-progress.field-0 (c.args.progress.now.steps + 1) c.in_ok-may_step.ensures.may c.in_ok-progress.ensures (add-one _)
