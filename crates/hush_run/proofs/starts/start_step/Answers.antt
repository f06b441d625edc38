use Rattle.std.proofs.Common.{rules as allowed, ◌≡◌, ◌+◌, ℕ, List, subst, sym, ap, arith, ◌∙◌, Ok, Err, Some, None, Option, is_some, true, false, add-one}
use Rattle.std.specs.FinMap as map
use Rattle.hush_syntax.specs.declared.nodes.Bodies.{Bodies}
use Rattle.hush_syntax.specs.Reading.{read_in}
use Rattle.hush_syntax.specs.Scripts.{tree_of}
use Rattle.hush_commands.specs.declared.messages.Message.TheVariants.{NotDefined, NoScript}
use Rattle.hush_run.specs.Meaning.{bodies_of}
use Rattle.hush_run.specs.Runs.{reason_of}
use Rattle.hush_run.specs.Steps.{Started, state_of, rules_of}
use Rattle.hush_run.proofs.StepLemmas.{start_unstarted, start_stopped, start_failed, start_deep, start_done, is_absent, is_no_script}
use Rattle.hush_run.proofs.starts.start_step.Goals as goal

pub returns-in_err-may_step : goal.returns-in_err-may_step
returns-in_err-may_step c =
    let same : c.from_residual.result ≡ Err c.in_err-may_step.field-0.0 = search allowed in
    rw same (start_unstarted (rules_of c.args.given.now) c.args.levels c.args.name.now (state_of c.args.session.now c.args.progress.now) c.in_err-may_step.field-0.0 c.in_err-may_step.ensures.may)

pub returns-in_err-fail : goal.returns-in_err-fail
returns-in_err-fail c =
    let s = state_of c.args.session.now c.args.progress.now in
    let absent : map.get s.held.now.env c.args.name.now ≡ None = search allowed in
    let same : c.from_residual-in_err-fail.result ≡ Err c.in_err-fail.field-0.0 = search allowed in
    rw same (start_stopped (rules_of c.args.given.now) NotDefined c.args.levels c.args.name.now s (state_of c.args.session.now c.fail.new.self) (reason_of c.in_err-fail.field-0.0) (λ e. absurd (let f : false ≡ true = ap (λ (o : Option (List ℕ)). is_some o) (sym absent) ∙ e in cc)) (is_absent c.args.given.now.shell c.args.levels c.args.name.now s absent) (c.in_err-fail.ensures.told (rules_of c.args.given.now) c.args.session.now c.in_ok-may_step.ensures.may))

pub returns-in_default : goal.returns-in_default
returns-in_default c =
    let s = state_of c.args.session.now c.args.progress.now in
    let absent : map.get s.held.now.env c.args.name.now ≡ None = search allowed in
    start_failed (rules_of c.args.given.now) NotDefined c.args.levels c.args.name.now s (state_of c.args.session.now c.fail.new.self) (is_absent c.args.given.now.shell c.args.levels c.args.name.now s absent) c.in_ok-fail.ensures.status (c.in_ok-fail.ensures.told (rules_of c.args.given.now) c.args.session.now c.in_ok-may_step.ensures.may)

pub returns-then-levels-eq0 : goal.returns-then-levels-eq0
returns-then-levels-eq0 c =
    let s = state_of c.args.session.now c.args.progress.now in
    let there : map.get s.held.now.env c.args.name.now ≡ Some c.in-Some.value.now = search allowed in
    start_deep (rules_of c.args.given.now) c.args.levels c.args.name.now c.in-Some.value.now s c.in_ok-may_step.ensures.may (search allowed) there

pub returns-in_err-fail-in_default-kind : goal.returns-in_err-fail-in_default-kind
returns-in_err-fail-in_default-kind c =
    let s = state_of c.args.session.now c.args.progress.now in
    let there : map.get s.held.now.env c.args.name.now ≡ Some c.in-Some.value.now = search allowed in
    let none : read_in (bodies_of c.args.given.now.shell) c.in-Some.value.now ≡ None = ap (λ (b : Bodies). read_in b c.in-Some.value.now) (sym c.bodies_of.ensures) ∙ subst (λ (text : List ℕ). read_in c.bodies_of.result text ≡ None) c.in_ok-from_slice.ensures.items (c.in-Err.ensures.unread c.in_default-kind.not-Memory) in
    let same : c.from_residual-in_err-fail-in_default-kind.result ≡ Err c.in_err-fail-in_default-kind.field-0.0 = search allowed in
    rw same (start_stopped (rules_of c.args.given.now) NoScript c.args.levels c.args.name.now s (state_of c.args.session.now c.fail-in_default-kind.new.self) (reason_of c.in_err-fail-in_default-kind.field-0.0) (λ e. omega (arith, c.if-levels-eq0.false)) (is_no_script c.args.given.now.shell c.args.levels c.args.name.now c.in-Some.value.now s c.if-levels-eq0.false there none) (c.in_err-fail-in_default-kind.ensures.told (rules_of c.args.given.now) c.args.session.now c.in_ok-may_step.ensures.may))

pub returns-in-Ok : goal.returns-in-Ok
returns-in-Ok c =
    let s = state_of c.args.session.now c.args.progress.now in
    let there : map.get s.held.now.env c.args.name.now ≡ Some c.in-Some.value.now = search allowed in
    let reads : read_in (bodies_of c.args.given.now.shell) c.in-Some.value.now ≡ Some (tree_of c.in-Ok.script) = ap (λ (b : Bodies). read_in b c.in-Some.value.now) (sym c.bodies_of.ensures) ∙ subst (λ (text : List ℕ). read_in c.bodies_of.result text ≡ Some (tree_of c.in-Ok.script)) (c.in-Ok.ensures.kept ∙ c.in_ok-from_slice.ensures.items) c.in-Ok.ensures.read in
    subst (λ (n : ℕ). Started (rules_of c.args.given.now) c.args.levels c.args.name.now s (record s { status = n; steps = c.args.progress.now.steps + 1 }) (Ok (Some c.in-Ok.script))) (sym c.started_status-progress.ensures)
    (start_done (rules_of c.args.given.now) c.args.levels c.args.name.now c.in-Some.value.now s c.in-Ok.script (c.args.progress.now.steps + 1) c.in_ok-may_step.ensures.may c.if-levels-eq0.false there reads (add-one _))

pub returns-in_ok-fail-in_default-kind : goal.returns-in_ok-fail-in_default-kind
returns-in_ok-fail-in_default-kind c =
    let s = state_of c.args.session.now c.args.progress.now in
    let there : map.get s.held.now.env c.args.name.now ≡ Some c.in-Some.value.now = search allowed in
    let none : read_in (bodies_of c.args.given.now.shell) c.in-Some.value.now ≡ None = ap (λ (b : Bodies). read_in b c.in-Some.value.now) (sym c.bodies_of.ensures) ∙ subst (λ (text : List ℕ). read_in c.bodies_of.result text ≡ None) c.in_ok-from_slice.ensures.items (c.in-Err.ensures.unread c.in_default-kind.not-Memory) in
    start_failed (rules_of c.args.given.now) NoScript c.args.levels c.args.name.now s (state_of c.args.session.now c.fail-in_default-kind.new.self) (is_no_script c.args.given.now.shell c.args.levels c.args.name.now c.in-Some.value.now s c.if-levels-eq0.false there none) c.in_ok-fail-in_default-kind.ensures.status (c.in_ok-fail-in_default-kind.ensures.told (rules_of c.args.given.now) c.args.session.now c.in_ok-may_step.ensures.may)
