use Rattle.std.proofs.Common.{rules as allowed, ◌≡◌, ◌+◌, List, ℕ, subst, sym, ap, ◌∙◌, Err, Ok, add-one, true, false, refl}
use Rattle.std.specs.FinMap as locals
use Rattle.envimg_core.specs.Environment.{Environment}
use Rattle.hush_words.specs.Parts.{word_atoms}
use Rattle.hush_syntax.specs.Trees.{name_in}
use Rattle.hush_commands.specs.declared.messages.Message.TheVariants.{IsVariable}
use Rattle.hush_commands.specs.Expansion.{expanded_value}
use Rattle.hush_run.specs.Meaning.{Rules, State, Goes, Does, step, assigned, called, fails, is_call, known_in, refuses}
use Rattle.hush_run.specs.Steps.{Did, FieldsAre, state_of, rules_of, value_of}
use Rattle.hush_run.proofs.StepLemmas.{no_fields, step_halts, step_done, value_large, value_made, assign_called, assign_refused, assign_done, as_step}
use Rattle.hush_run.proofs.steps.assign_step.Goals as goal

pub returns-in_err-expand_value : goal.returns-in_err-expand_value
returns-in_err-expand_value c =
    let r = rules_of c.args.given.now in
    let name = name_in c.args.text.now c.args.name in
    let word = word_atoms c.args.text.now c.args.value in
    let s = state_of c.args.session.now c.args.progress.now in
    let same : c.from_residual.result ≡ Err c.in_err-expand_value.field-0.0 = search allowed in
    rw same (subst (λ (t : State). Did r (λ (q : Rules) begin. step q (assigned q name word)) (λ (u : Unit {0}) q begin. Goes) s t (Err c.in_err-expand_value.field-0.0)) (sym (c.in_err-expand_value.ensures.same c.args.session.now))
    (no_fields r (λ q begin. step q (assigned q name word)) (λ (u : Unit {0}) q begin. Goes) (value_of r word s) s c.expand_value.new.self.fields c.in_err-expand_value.field-0.0 c.in_err-expand_value.ensures.fields
    (λ begin le. step_halts r (assigned r name word) s le)
    (λ begin lt e. value_large r name word s lt e)))

pub returns-in_err-read_name : goal.returns-in_err-read_name
returns-in_err-read_name c = let same = c.in_ok-expand_value.ensures.same c.args.session.now in search (allowed, same)

pub returns-in_err-set : goal.returns-in_err-set
returns-in_err-set c = let same = c.in_ok-expand_value.ensures.same c.args.session.now in search (allowed, same)

pub returns-then-is_call : goal.returns-then-is_call
returns-then-is_call c =
    let r = rules_of c.args.given.now in
    let name = name_in c.args.text.now c.args.name in
    let word = word_atoms c.args.text.now c.args.value in
    let t = state_of c.args.session.now c.expand_value.new.self in
    let back : t ≡ state_of c.args.session.now c.args.progress.now = c.in_ok-expand_value.ensures.same c.args.session.now in
    let calls : is_call r.shell name ≡ true = ap (is_call r.shell) (sym c.in_ok-read_name.ensures) ∙ ap (is_call r.shell) (sym c.deref.ensures.value) ∙ sym c.if-is_call.ensures in
    subst (λ (u : State). Did r (λ (q : Rules) begin. step q (assigned q name word)) (λ (x : Unit {0}) q begin. Goes) u (state_of c.args.session.now c.call_step.new.progress) c.call_step.result) back
    (as_step r (assigned r name word) (called r name word) t (state_of c.args.session.now c.call_step.new.progress) c.call_step.result (assign_called r name word t calls) c.call_step.ensures)

pub returns-then-refuses : goal.returns-then-refuses
returns-then-refuses c =
    let r = rules_of c.args.given.now in
    let name = name_in c.args.text.now c.args.name in
    let word = word_atoms c.args.text.now c.args.value in
    let t = state_of c.args.session.now c.expand_value.new.self in
    let back : t ≡ state_of c.args.session.now c.args.progress.now = c.in_ok-expand_value.ensures.same c.args.session.now in
    let are = subst (λ (u : State). FieldsAre r (value_of r word u) u c.expand_value.new.self.fields (Ok tt)) (sym back) c.in_ok-expand_value.ensures.fields in
    let made = value_made (expanded_value (known_in t) r.limits.word word) c.expand_value.new.self.fields are.1 in
    let uncalled : is_call r.shell c.read_name.new.name.items ≡ false = ap (is_call r.shell) (sym c.deref.ensures.value) ∙ sym c.if-is_call.ensures in
    let taken : refuses r.shell t c.read_name.new.name.items ≡ true = ap (refuses r.shell t) (sym c.deref-2.ensures.value) ∙ sym (c.if-refuses.ensures t refl) in
    subst (λ (u : State). Did r (λ (q : Rules) begin. step q (assigned q name word)) (λ (x : Unit {0}) q begin. Goes) u (state_of c.args.session.now c.refuse_name.new.self) c.refuse_name.result) back
    (as_step r (assigned r name word) (fails IsVariable c.read_name.new.name.items) t (state_of c.args.session.now c.refuse_name.new.self) c.refuse_name.result
    (ap (λ (n : List ℕ). assigned r n word t) (sym c.in_ok-read_name.ensures) ∙ assign_refused r c.read_name.new.name.items word t made.0 made.1 uncalled taken)
    (c.refuse_name.ensures r c.args.session.now are.0))

pub returns : goal.returns
returns c =
    let r = rules_of c.args.given.now in
    let name = name_in c.args.text.now c.args.name in
    let word = word_atoms c.args.text.now c.args.value in
    let t = state_of c.args.session.now c.expand_value.new.self in
    let back : t ≡ state_of c.args.session.now c.args.progress.now = c.in_ok-expand_value.ensures.same c.args.session.now in
    let are = subst (λ (u : State). FieldsAre r (value_of r word u) u c.expand_value.new.self.fields (Ok tt)) (sym back) c.in_ok-expand_value.ensures.fields in
    let made = value_made (expanded_value (known_in t) r.limits.word word) c.expand_value.new.self.fields are.1 in
    let value : c.in-Some.value.now ≡ made.0 = search (allowed, made.2) in
    let uncalled : is_call r.shell c.read_name.new.name.items ≡ false = ap (is_call r.shell) (sym c.deref.ensures.value) ∙ sym c.if-is_call.ensures in
    let free : refuses r.shell t c.read_name.new.name.items ≡ false = ap (refuses r.shell t) (sym c.deref-2.ensures.value) ∙ sym (c.if-refuses.ensures t refl) in
    let put : c.set.new.self ≡ locals.insert t.locals c.read_name.new.name.items c.in-Some.value.now = search allowed in
    let does : assigned r name word t ≡ Does (record t { locals = c.set.new.self; status = 0 }) =
    ap (λ (n : List ℕ). assigned r n word t) (sym c.in_ok-read_name.ensures)
    ∙ assign_done r c.read_name.new.name.items word t made.0 made.1 uncalled free
    ∙ ap (λ (v : List ℕ). Does (record t { locals = locals.insert t.locals c.read_name.new.name.items v; status = 0 })) (sym value)
    ∙ ap (λ (l : Environment). Does (record t { locals = l; status = 0 })) (sym put) in
    let did = step_done r (assigned r name word) t (record t { locals = c.set.new.self; status = 0 }) (c.expand_value.new.self.steps + 1) are.0 does (add-one _) in
    subst (λ (u : State). Did r (λ (q : Rules) begin. step q (assigned q name word)) (λ (x : Unit {0}) q begin. Goes) u (record t { locals = c.set.new.self; status = 0; steps = c.expand_value.new.self.steps + 1 }) (Ok tt)) back
    (did.0, λ n begin le. did.1 n le)
