use Rattle.std.proofs.Common.{ℕ, subst, Ok, Err, Some, None, arith}
use Rattle.hush_run.specs.Runs.{reason_of}
use Rattle.hush_run.specs.Steps.{Answered, state_of, rules_of}
use Rattle.hush_run.proofs.AdvanceLemmas.{not_answered, answered_empty, answered_root, answer_stops}
use Rattle.hush_run.proofs.due.answer_due.Goals as goal

pub push-requires : goal.push-requires
push-requires c =
    let b = subst (λ (k : ℕ). Answered (rules_of c.args.given.now) k c.args.words c.args.text (state_of c.args.session.now c.args.progress.now) (state_of c.args.session.now c.answer_step.new.progress) (Ok (Some c.in-Ok-Some.script))) c.levels_left.ensures (rw c.in-Ok-Some.field-0-is at (c.in-Ok-Some.ensures c.args.session.now)) in
    omega (arith, b.2, c.requires.depth, c.requires.ready.some)

pub returns-in-Some : goal.returns-in-Some
returns-in-Some c =
    let b = subst (λ (k : ℕ). Answered (rules_of c.args.given.now) k c.args.words c.args.text (state_of c.args.session.now c.args.progress.now) (state_of c.args.session.now c.answer_step.new.progress) (Ok (Some c.in-Ok-Some.script))) c.levels_left.ensures (rw c.in-Ok-Some.field-0-is at (c.in-Ok-Some.ensures c.args.session.now)) in
    rw (c.push.ensures, c.push-in-Ok-Some.ensures, c.none.ensures) (answered_root (rules_of c.args.given.now) c.args.calls.now c.args.frames.now.frames c.args.frames.now.capacity c.args.words c.args.text (state_of c.args.session.now c.args.progress.now) (state_of c.args.session.now c.answer_step.new.progress) c.requires.ready c.in-Ok-Some.script c.in-Some.root b c.in-Some.ensures)

pub returns-in-Ok-Some : goal.returns-in-Ok-Some
returns-in-Ok-Some c =
    let b = subst (λ (k : ℕ). Answered (rules_of c.args.given.now) k c.args.words c.args.text (state_of c.args.session.now c.args.progress.now) (state_of c.args.session.now c.answer_step.new.progress) (Ok (Some c.in-Ok-Some.script))) c.levels_left.ensures (rw c.in-Ok-Some.field-0-is at (c.in-Ok-Some.ensures c.args.session.now)) in
    rw (c.push.ensures, c.push-in-Ok-Some.ensures, c.none.ensures) (answered_empty (rules_of c.args.given.now) c.args.calls.now c.args.frames.now.frames c.args.frames.now.capacity c.args.words c.args.text (state_of c.args.session.now c.args.progress.now) (state_of c.args.session.now c.answer_step.new.progress) c.requires.ready c.in-Ok-Some.script b c.in-None.ensures)

pub returns-in-Ok-None : goal.returns-in-Ok-None
returns-in-Ok-None c =
    let b = subst (λ (k : ℕ). Answered (rules_of c.args.given.now) k c.args.words c.args.text (state_of c.args.session.now c.args.progress.now) (state_of c.args.session.now c.answer_step.new.progress) (Ok None)) c.levels_left.ensures (rw c.in-Ok-None.field-0-is at (c.in-Ok-None.ensures c.args.session.now)) in
    not_answered (rules_of c.args.given.now) c.args.calls.now c.args.frames.now.frames c.args.frames.now.capacity c.args.words c.args.text (state_of c.args.session.now c.args.progress.now) (state_of c.args.session.now c.answer_step.new.progress) c.requires.ready b

pub returns : goal.returns
returns c =
    let b = subst (λ (k : ℕ). Answered (rules_of c.args.given.now) k c.args.words c.args.text (state_of c.args.session.now c.args.progress.now) (state_of c.args.session.now c.answer_step.new.progress) (Err c.in-Err.ending)) c.levels_left.ensures (c.in-Err.ensures c.args.session.now) in
    answer_stops (rules_of c.args.given.now) c.args.calls.now c.args.frames.now.frames c.args.frames.now.capacity c.args.words c.args.text (state_of c.args.session.now c.args.progress.now) (state_of c.args.session.now c.answer_step.new.progress) c.requires.ready (reason_of c.in-Err.ending) b
