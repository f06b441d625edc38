use Rattle.std.proofs.Common.{rules as allowed, ◌≡◌, ◌∷◌, ◌<◌, length, refl, eqb-true, drop, sym, ◌∙◌}
use Rattle.hush_run.specs.declared.due.Due.TheVariants as due
use Rattle.hush_run.specs.Runs.{reason_of}
use Rattle.hush_run.specs.Steps.{state_of, rules_of}
use Rattle.hush_run.proofs.AdvanceLemmas.{delete_goes, delete_over, delete_stops_so}
use Rattle.hush_run.proofs.due.delete_due.Goals as goal

pub returns-then-is_empty : goal.returns-then-is_empty
returns-then-is_empty c =
    let split : c.args.names ≡ c.in-Some.name.now ∷ c.advance.new.self = search allowed in
    let none : length c.advance.new.self ≡ 0 = eqb-true _ _ (sym c.is_empty.ensures ∙ c.if-is_empty.true) in
    delete_goes (rules_of c.args.given.now) c.args.calls.now c.args.frames.now.frames c.args.frames.now.capacity c.args.force c.args.failed c.in-Ok.failed c.in-Some.name.now c.args.names c.advance.new.self due.Over (state_of c.args.session.now c.args.progress.now) (state_of c.delete_step.new.session c.delete_step.new.progress)
    split c.requires.ready (c.in-Ok.ensures c.advance.new.self) tt refl (λ r begin u. delete_over r c.args.force c.in-Ok.failed c.advance.new.self u none)

pub returns-else-is_empty : goal.returns-else-is_empty
returns-else-is_empty c =
    let split : c.args.names ≡ c.in-Some.name.now ∷ c.advance.new.self = search allowed in
    let some : 0 < length c.advance.new.self = search allowed in
    delete_goes (rules_of c.args.given.now) c.args.calls.now c.args.frames.now.frames c.args.frames.now.capacity c.args.force c.args.failed c.in-Ok.failed c.in-Some.name.now c.args.names c.advance.new.self (due.Delete c.args.force c.in-Ok.failed c.advance.new.self) (state_of c.args.session.now c.args.progress.now) (state_of c.delete_step.new.session c.delete_step.new.progress)
    split c.requires.ready (c.in-Ok.ensures c.advance.new.self) some refl (λ r begin u. refl)

pub returns-in-Err : goal.returns-in-Err
returns-in-Err c =
    let split : c.args.names ≡ c.in-Some.name.now ∷ drop 1 c.args.names = search allowed in
    delete_stops_so (rules_of c.args.given.now) c.args.calls.now c.args.frames.now.frames c.args.force c.args.failed c.in-Some.name.now c.args.names (drop 1 c.args.names) (state_of c.args.session.now c.args.progress.now) (state_of c.delete_step.new.session c.delete_step.new.progress) (reason_of c.in-Err.ending) split c.requires.ready.is_due (c.in-Err.ensures (drop 1 c.args.names))
