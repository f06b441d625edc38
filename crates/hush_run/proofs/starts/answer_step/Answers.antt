use Rattle.std.proofs.Common.{rules as allowed, ◌≡◌, ◌+◌, ℕ, List, subst, sym, ap, ◌∙◌, Ok, Err, Some, None, add-one}
use Rattle.envimg_core.specs.Environment.{Environment}
use Rattle.hush_syntax.specs.declared.nodes.Bodies.{Bodies}
use Rattle.hush_syntax.specs.Reading.{read_in}
use Rattle.hush_syntax.specs.Scripts.{tree_of}
use Rattle.hush_commands.specs.Hardware.{with_words}
use Rattle.hush_run.specs.Meaning.{started_status, bodies_of}
use Rattle.hush_run.specs.Runs.{reason_of}
use Rattle.hush_run.specs.Steps.{Answered, state_of, rules_of}
use Rattle.hush_run.proofs.StepLemmas.{answer_unstarted, answer_stopped, answer_failed, answer_deep, answer_done}
use Rattle.hush_run.proofs.starts.answer_step.Goals as goal

pub returns-in_err-may_step : goal.returns-in_err-may_step
returns-in_err-may_step c =
    let same : c.from_residual.result ≡ Err c.in_err-may_step.field-0.0 = search allowed in
    rw same (λ held. answer_unstarted (rules_of c.args.given.now) c.args.levels c.args.words.now c.args.text (state_of held c.args.progress.now) c.in_err-may_step.field-0.0 c.in_err-may_step.ensures.may)

pub returns-then-levels-eq0 : goal.returns-then-levels-eq0
returns-then-levels-eq0 c =
    λ held. answer_deep (rules_of c.args.given.now) c.args.levels c.args.words.now c.args.text (state_of held c.args.progress.now) c.in_ok-may_step.ensures.may c.if-levels-eq0.true

pub returns-in_err-fail-in_default : goal.returns-in_err-fail-in_default
returns-in_err-fail-in_default c =
    let none : read_in (bodies_of c.args.given.now.shell) c.args.text ≡ None = ap (λ (b : Bodies). read_in b c.args.text) (sym c.bodies_of.ensures) ∙ subst (λ (text : List ℕ). read_in c.bodies_of.result text ≡ None) c.into_vec.ensures (c.in-Err.ensures.unread c.in_default.not-Memory) in
    let same : c.from_residual-in_err-fail-in_default.result ≡ Err c.in_err-fail-in_default.field-0.0 = search allowed in
    rw same (λ held. answer_stopped (rules_of c.args.given.now) c.args.levels c.args.words.now c.args.text c.called_in.result.now (state_of held c.args.progress.now) (state_of held c.fail.new.self) (reason_of c.in_err-fail-in_default.field-0.0) c.if-levels-eq0.false none c.called_in.ensures (c.in_err-fail-in_default.ensures.told (rules_of c.args.given.now) held c.in_ok-may_step.ensures.may))

pub returns-in_ok-locals-in-Ok : goal.returns-in_ok-locals-in-Ok
returns-in_ok-locals-in-Ok c =
    let r = rules_of c.args.given.now in
    let reads : read_in (bodies_of c.args.given.now.shell) c.args.text ≡ Some (tree_of c.in-Ok.script) = ap (λ (b : Bodies). read_in b c.args.text) (sym c.bodies_of.ensures) ∙ subst (λ (text : List ℕ). read_in c.bodies_of.result text ≡ Some (tree_of c.in-Ok.script)) (c.in-Ok.ensures.kept ∙ c.into_vec.ensures) c.in-Ok.ensures.read in
    let put : c.in_ok-locals-in-Ok.locals ≡ with_words c.args.progress.now.locals c.args.words.now = c.in_ok-locals-in-Ok.ensures ∙ ap (λ (ws : List (List ℕ)). with_words c.args.progress.now.locals ws) c.fields.ensures in
    λ held.
    let s = state_of held c.args.progress.now in
    subst (λ (n : ℕ). Answered r c.args.levels c.args.words.now c.args.text s (record s { locals = c.in_ok-locals-in-Ok.locals; status = n; steps = c.args.progress.now.steps + 1 }) (Ok (Some c.in-Ok.script))) (sym c.started_status-progress.ensures)
    (subst (λ (l : Environment). Answered r c.args.levels c.args.words.now c.args.text s (record s { locals = l; status = started_status r.shell (tree_of c.in-Ok.script) s.status; steps = c.args.progress.now.steps + 1 }) (Ok (Some c.in-Ok.script))) (sym put)
    (answer_done r c.args.levels c.args.words.now c.args.text s c.in-Ok.script (c.args.progress.now.steps + 1) c.in_ok-may_step.ensures.may c.if-levels-eq0.false reads (add-one _)))

pub returns-in_ok-fail-in_default : goal.returns-in_ok-fail-in_default
returns-in_ok-fail-in_default c =
    let none : read_in (bodies_of c.args.given.now.shell) c.args.text ≡ None = ap (λ (b : Bodies). read_in b c.args.text) (sym c.bodies_of.ensures) ∙ subst (λ (text : List ℕ). read_in c.bodies_of.result text ≡ None) c.into_vec.ensures (c.in-Err.ensures.unread c.in_default.not-Memory) in
    λ held. answer_failed (rules_of c.args.given.now) c.args.levels c.args.words.now c.args.text c.called_in.result.now (state_of held c.args.progress.now) (state_of held c.fail.new.self) c.if-levels-eq0.false none c.called_in.ensures (c.in_ok-fail-in_default.ensures.told (rules_of c.args.given.now) held c.in_ok-may_step.ensures.may)
