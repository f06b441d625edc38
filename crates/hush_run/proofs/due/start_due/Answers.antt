use Rattle.std.proofs.Common.{rules as allowed, ◌≡◌, ◌∷◌, ℕ, subst, Ok, Err, Some, drop}
use Rattle.hush_run.specs.Runs.{reason_of}
use Rattle.hush_run.specs.Steps.{Started, state_of, rules_of}
use Rattle.hush_run.proofs.AdvanceLemmas.{started_empty, started_root, start_stops}
use Rattle.hush_run.proofs.due.start_due.Goals as goal

pub returns-in-Some-root : goal.returns-in-Some-root
returns-in-Some-root c =
    let split : c.args.names ≡ c.in-Some.name.now ∷ drop 1 c.args.names = search allowed in
    let b = subst (λ (k : ℕ). Started (rules_of c.args.given.now) k c.in-Some.name.now (state_of c.args.session.now c.args.progress.now) (state_of c.args.session.now c.start_step.new.progress) (Ok (Some c.in-Ok-Some.script))) c.levels_left.ensures (rw c.in-Ok-Some.field-0-is at c.in-Ok-Some.ensures) in
    rw (c.push.ensures, c.push-in-Ok-Some.ensures) (started_root (rules_of c.args.given.now) c.args.calls.now c.args.frames.now.frames c.args.frames.now.capacity c.in-Some.name.now c.args.names (drop 1 c.args.names) (state_of c.args.session.now c.args.progress.now) (state_of c.args.session.now c.start_step.new.progress) split c.requires.ready c.in-Ok-Some.script c.in-Some-root.root b c.in-Some-root.ensures)

pub returns-in-None : goal.returns-in-None
returns-in-None c =
    let split : c.args.names ≡ c.in-Some.name.now ∷ drop 1 c.args.names = search allowed in
    let b = subst (λ (k : ℕ). Started (rules_of c.args.given.now) k c.in-Some.name.now (state_of c.args.session.now c.args.progress.now) (state_of c.args.session.now c.start_step.new.progress) (Ok (Some c.in-Ok-Some.script))) c.levels_left.ensures (rw c.in-Ok-Some.field-0-is at c.in-Ok-Some.ensures) in
    rw (c.push.ensures, c.push-in-Ok-Some.ensures) (started_empty (rules_of c.args.given.now) c.args.calls.now c.args.frames.now.frames c.args.frames.now.capacity c.in-Some.name.now c.args.names (drop 1 c.args.names) (state_of c.args.session.now c.args.progress.now) (state_of c.args.session.now c.start_step.new.progress) split c.requires.ready c.in-Ok-Some.script b c.in-None.ensures)

pub returns-in-Err : goal.returns-in-Err
returns-in-Err c =
    let split : c.args.names ≡ c.in-Some.name.now ∷ drop 1 c.args.names = search allowed in
    let b = subst (λ (k : ℕ). Started (rules_of c.args.given.now) k c.in-Some.name.now (state_of c.args.session.now c.args.progress.now) (state_of c.args.session.now c.start_step.new.progress) (Err c.in-Err.ending)) c.levels_left.ensures c.in-Err.ensures in
    start_stops (rules_of c.args.given.now) c.args.calls.now c.args.frames.now.frames c.args.frames.now.capacity c.in-Some.name.now c.args.names (drop 1 c.args.names) (state_of c.args.session.now c.args.progress.now) (state_of c.args.session.now c.start_step.new.progress) split c.requires.ready (reason_of c.in-Err.ending) b
