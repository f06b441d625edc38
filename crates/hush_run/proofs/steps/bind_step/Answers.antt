use Rattle.std.proofs.Common.{rules as allowed, ◌≡◌, ◌+◌, ◌∷◌, List, ℕ, subst, sym, ap, ◌∙◌, Err, Ok, add-one, true, false, refl, if◌then◌else◌}
use Rattle.std.specs.FinMap as locals
use Rattle.envimg_core.specs.Environment.{Environment}
use Rattle.hush_syntax.specs.Trees.{name_in}
use Rattle.hush_run.specs.Meaning.{Rules, Goes, ◌then◌, bindings, bound_status, is_call, refuses}
use Rattle.hush_run.specs.Runs.{reason_of}
use Rattle.hush_run.specs.Steps.{Did, state_of, rules_of}
use Rattle.hush_run.proofs.StepLemmas.{no_step, bind_halts, bind_refused, bind_stopped, bind_called, bind_call_stopped, bind_done}
use Rattle.hush_run.proofs.steps.bind_step.Goals as goal

pub returns-in_err-may_step : goal.returns-in_err-may_step
returns-in_err-may_step c =
    let r = rules_of c.args.given.now in
    let name = name_in c.args.text.now c.args.name in
    let s = state_of c.args.session.now c.args.progress.now in
    let same : c.from_residual.result ≡ Err c.in_err-may_step.field-0.0 = search allowed in
    rw same (λ rest body. no_step r (λ q begin. bindings q name (body q begin) (c.args.field.now ∷ rest)) (λ bound q begin. if bound then (body q begin then bindings q name (body q begin) rest) else Goes) s c.in_err-may_step.field-0.0 c.in_err-may_step.ensures.may
    (bind_halts r name c.args.field.now rest body s))

pub returns-in_err-refuse_name : goal.returns-in_err-refuse_name
returns-in_err-refuse_name c =
    let r = rules_of c.args.given.now in
    let name = name_in c.args.text.now c.args.name in
    let s = state_of c.args.session.now c.args.progress.now in
    let taken : refuses r.shell s c.read_name.new.name.items ≡ true = ap (refuses r.shell s) (sym c.deref.ensures.value) ∙ sym (c.if-refuses.ensures s refl) in
    let same : c.from_residual-in_err-refuse_name.result ≡ Err c.in_err-refuse_name.field-0.0 = search allowed in
    rw same (λ rest body. subst (λ (m : List ℕ). Did r (λ (q : Rules) begin. bindings q m (body q begin) (c.args.field.now ∷ rest)) (λ bound q begin. if bound then (body q begin then bindings q m (body q begin) rest) else Goes) s (state_of c.args.session.now c.refuse_name.new.self) (Err c.in_err-refuse_name.field-0.0)) c.in_ok-read_name.ensures
    (bind_stopped r c.read_name.new.name.items c.args.field.now rest body s (state_of c.args.session.now c.refuse_name.new.self) (reason_of c.in_err-refuse_name.field-0.0) taken (c.in_err-refuse_name.ensures r c.args.session.now c.in_ok-may_step.ensures.may)))

pub returns-then-refuses : goal.returns-then-refuses
returns-then-refuses c =
    let r = rules_of c.args.given.now in
    let name = name_in c.args.text.now c.args.name in
    let s = state_of c.args.session.now c.args.progress.now in
    let taken : refuses r.shell s c.read_name.new.name.items ≡ true = ap (refuses r.shell s) (sym c.deref.ensures.value) ∙ sym (c.if-refuses.ensures s refl) in
    λ rest body. subst (λ (m : List ℕ). Did r (λ (q : Rules) begin. bindings q m (body q begin) (c.args.field.now ∷ rest)) (λ bound q begin. if bound then (body q begin then bindings q m (body q begin) rest) else Goes) s (state_of c.args.session.now c.refuse_name.new.self) (Ok false)) c.in_ok-read_name.ensures
    (bind_refused r c.read_name.new.name.items c.args.field.now rest body s (state_of c.args.session.now c.refuse_name.new.self) taken (c.in_ok-refuse_name.ensures r c.args.session.now c.in_ok-may_step.ensures.may))

pub returns-in_err-refuse_binding : goal.returns-in_err-refuse_binding
returns-in_err-refuse_binding c =
    let r = rules_of c.args.given.now in
    let s = state_of c.args.session.now c.args.progress.now in
    let free : refuses r.shell s c.read_name.new.name.items ≡ false = ap (refuses r.shell s) (sym c.deref.ensures.value) ∙ sym (c.if-refuses.ensures s refl) in
    let calls : is_call r.shell c.read_name.new.name.items ≡ true = ap (is_call r.shell) (sym c.deref-2.ensures.value) ∙ sym c.if-is_call.ensures in
    let same : c.from_residual-in_err-refuse_binding.result ≡ Err c.in_err-refuse_binding.field-0.0 = search allowed in
    rw same (λ rest body. subst (λ (m : List ℕ). Did r (λ (q : Rules) begin. bindings q m (body q begin) (c.args.field.now ∷ rest)) (λ bound q begin. if bound then (body q begin then bindings q m (body q begin) rest) else Goes) s (state_of c.args.session.now c.refuse_binding.new.self) (Err c.in_err-refuse_binding.field-0.0)) c.in_ok-read_name.ensures
    (bind_call_stopped r c.read_name.new.name.items c.args.field.now rest body s (state_of c.args.session.now c.refuse_binding.new.self) (reason_of c.in_err-refuse_binding.field-0.0) free calls (c.in_err-refuse_binding.ensures r c.args.session.now c.in_ok-may_step.ensures.may)))

pub returns-then-is_call : goal.returns-then-is_call
returns-then-is_call c =
    let r = rules_of c.args.given.now in
    let s = state_of c.args.session.now c.args.progress.now in
    let free : refuses r.shell s c.read_name.new.name.items ≡ false = ap (refuses r.shell s) (sym c.deref.ensures.value) ∙ sym (c.if-refuses.ensures s refl) in
    let calls : is_call r.shell c.read_name.new.name.items ≡ true = ap (is_call r.shell) (sym c.deref-2.ensures.value) ∙ sym c.if-is_call.ensures in
    λ rest body. subst (λ (m : List ℕ). Did r (λ (q : Rules) begin. bindings q m (body q begin) (c.args.field.now ∷ rest)) (λ bound q begin. if bound then (body q begin then bindings q m (body q begin) rest) else Goes) s (state_of c.args.session.now c.refuse_binding.new.self) (Ok true)) c.in_ok-read_name.ensures
    (bind_called r c.read_name.new.name.items c.args.field.now rest body s (state_of c.args.session.now c.refuse_binding.new.self) free calls (c.in_ok-refuse_binding.ensures r c.args.session.now c.in_ok-may_step.ensures.may))

pub returns : goal.returns
returns c =
    let r = rules_of c.args.given.now in
    let s = state_of c.args.session.now c.args.progress.now in
    let free : refuses r.shell s c.read_name.new.name.items ≡ false = ap (refuses r.shell s) (sym c.deref.ensures.value) ∙ sym (c.if-refuses.ensures s refl) in
    let uncalled : is_call r.shell c.read_name.new.name.items ≡ false = ap (is_call r.shell) (sym c.deref-2.ensures.value) ∙ sym c.if-is_call.ensures in
    let put : c.set.new.self ≡ locals.insert s.locals c.read_name.new.name.items c.args.field.now = search allowed in
    let bound : c.bound_status-progress.result ≡ bound_status r.shell s.status = c.bound_status-progress.ensures in
    rw bound (λ rest body. subst (λ (m : List ℕ). Did r (λ (q : Rules) begin. bindings q m (body q begin) (c.args.field.now ∷ rest)) (λ bound q begin. if bound then (body q begin then bindings q m (body q begin) rest) else Goes) s (record s { locals = c.set.new.self; status = bound_status r.shell s.status; steps = c.args.progress.now.steps + 1 }) (Ok true)) c.in_ok-read_name.ensures
    (subst (λ (l : Environment). Did r (λ (q : Rules) begin. bindings q c.read_name.new.name.items (body q begin) (c.args.field.now ∷ rest)) (λ bound q begin. if bound then (body q begin then bindings q c.read_name.new.name.items (body q begin) rest) else Goes) s (record s { locals = l; status = bound_status r.shell s.status; steps = c.args.progress.now.steps + 1 }) (Ok true)) (sym put)
    (bind_done r c.read_name.new.name.items c.args.field.now rest body s (c.args.progress.now.steps + 1) c.in_ok-may_step.ensures.may free uncalled (add-one _))))
