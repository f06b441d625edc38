use Rattle.std.proofs.Common.{rules as allowed, ◌≡◌, ◌+◌, map, subst, sym, ap, ◌∙◌, Err, Ok, None, add-one, true, false, refl}
use Rattle.hush_words.specs.Parts.{word_atoms}
use Rattle.hush_commands.specs.declared.follow.Follow.TheVariants as kind
use Rattle.hush_run.specs.Steps.{ending_of_print}
use Rattle.hush_run.specs.Meaning.{Rules, Begin, State, asks_save, have_value, leave_of, followed, simple, follows, fields_of, Ends}
use Rattle.hush_run.specs.Meaning.Reason.{Exited}
use Rattle.hush_run.specs.Steps.{Did, FieldsAre, state_of, rules_of}
use Rattle.hush_run.proofs.StepLemmas.{NoEnd, made_fields, no_fields, simple_asked, simple_halts, simple_large, followed-other, simple_done, simple_left, simple_unprinted}
use Rattle.hush_run.proofs.steps.simple_step.Goals as goal

pub returns-in_err-expand : goal.returns-in_err-expand
returns-in_err-expand c =
    let r = rules_of c.args.given.now in
    let words = map (word_atoms c.args.text.now) c.args.words.now in
    let s = state_of c.args.session.now c.args.progress.now in
    let same : c.from_residual.result ≡ Err c.in_err-expand.field-0.0 = search allowed in
    rw same (subst (λ (t : State). Did r (λ (q : Rules) begin u. simple q begin (have_value words) (fields_of q words u) u) (λ follow q begin. follows q begin follow) s t (Err c.in_err-expand.field-0.0)) (sym (c.in_err-expand.ensures.same c.args.session.now))
    (no_fields r (λ q begin u. simple q begin (have_value words) (fields_of q words u) u) (λ follow q begin. follows q begin follow) (fields_of r words s) s c.expand.new.self.fields c.in_err-expand.field-0.0 c.in_err-expand.ensures.fields
    (λ begin le. simple_halts r begin (have_value words) (fields_of r words s) s le)
    (λ begin lt e. simple_large r begin (have_value words) (fields_of r words s) s lt e)))

pub returns-in_err-carried : goal.returns-in_err-carried
returns-in_err-carried c =
    let r = rules_of c.args.given.now in
    let words = map (word_atoms c.args.text.now) c.args.words.now in
    let s = state_of c.args.session.now c.args.progress.now in
    let t = state_of c.args.session.now c.expand.new.self in
    let back : t ≡ s = c.in_ok-expand.ensures.same c.args.session.now in
    let are = subst (λ (u : State). FieldsAre r (fields_of r words u) u c.expand.new.self.fields (Ok tt)) (sym back) c.in_ok-expand.ensures.fields in
    let same : c.from_residual-in_err-carried.result ≡ Err (ending_of_print c.in_err-carried.field-0.0) = search allowed in
    let free : asks_save r c.expand.new.self.fields.done t ≡ false = sym (c.if-asks_save.ensures t refl) in
    let new : State = record { held = c.carry_out.new.session; locals = c.expand.new.self.locals; status = c.expand.new.self.status; printed = c.carry_out.new.output; steps = c.expand.new.self.steps; departure = c.expand.new.self.departure } in
    rw same (subst (λ (u : State). Did r (λ (q : Rules) begin v. simple q begin (have_value words) (fields_of q words v) v) (λ follow q begin. follows q begin follow) u new (Err (ending_of_print c.in_err-carried.field-0.0))) back
    (simple_unprinted r words t c.expand.new.self.fields.done are.0 (made_fields (fields_of r words t) c.expand.new.self.fields are.1) free c.carry_out.new.session c.carry_out.new.output c.in_err-carried.field-0.0 c.in_err-carried.ensures.carries))

pub returns-then-asks_save : goal.returns-then-asks_save
returns-then-asks_save c =
    let r = rules_of c.args.given.now in
    let words = map (word_atoms c.args.text.now) c.args.words.now in
    let s = state_of c.args.session.now c.args.progress.now in
    let t = state_of c.args.session.now c.expand.new.self in
    let back : t ≡ s = c.in_ok-expand.ensures.same c.args.session.now in
    let are = subst (λ (u : State). FieldsAre r (fields_of r words u) u c.expand.new.self.fields (Ok tt)) (sym back) c.in_ok-expand.ensures.fields in
    let asks : asks_save r c.expand.new.self.fields.done t ≡ true = sym (c.if-asks_save.ensures t refl) in
    rw c.leave_asking.ensures.ending (subst (λ (u : State). (begin : Begin) → simple r begin (have_value words) (fields_of r words u) u ≡ Ends Exited None (state_of c.args.session.now c.leave_asking.new.progress)) back
    (λ begin. simple_asked r words t c.expand.new.self.fields.done are.0 (made_fields (fields_of r words t) c.expand.new.self.fields are.1) asks begin ∙ ap (λ (u : State). Ends Exited None u) (sym (c.leave_asking.ensures.asked c.args.session.now))))

pub returns-in-End : goal.returns-in-End
returns-in-End c =
    let r = rules_of c.args.given.now in
    let words = map (word_atoms c.args.text.now) c.args.words.now in
    let s = state_of c.args.session.now c.args.progress.now in
    let t = state_of c.args.session.now c.expand.new.self in
    let back : t ≡ s = c.in_ok-expand.ensures.same c.args.session.now in
    let are = subst (λ (u : State). FieldsAre r (fields_of r words u) u c.expand.new.self.fields (Ok tt)) (sym back) c.in_ok-expand.ensures.fields in
    let free : asks_save r c.expand.new.self.fields.done t ≡ false = sym (c.if-asks_save.ensures t refl) in
    let new : State = record { held = c.carry_out.new.session; locals = c.expand.new.self.locals; status = c.in_ok-carried.carried.0; printed = c.carry_out.new.output; steps = c.expand.new.self.steps + 1; departure = c.in-End.departure } in
    rw c.in-End.is (subst (λ (u : State). (begin : Begin) → simple r begin (have_value words) (fields_of r words u) u ≡ Ends Exited None new) back
    (simple_left r words t c.expand.new.self.fields.done are.0 (made_fields (fields_of r words t) c.expand.new.self.fields are.1) free c.carry_out.new.session c.carry_out.new.output c.in_ok-carried.carried.0 (c.expand.new.self.steps + 1) c.in-End.departure c.in_ok-carried.ensures.carries (add-one _) (sym c.in_ok-carried.ensures.follows ∙ c.in-End.is)))

pub returns-in-Leaves : goal.returns-in-Leaves
returns-in-Leaves c =
    let no_end : NoEnd c.in_ok-carried.carried.1 = λ departure e. (let f : kind.Leaves ≡ kind.End departure = sym c.in-Leaves.is ∙ e in cc) in
    let r = rules_of c.args.given.now in
    let words = map (word_atoms c.args.text.now) c.args.words.now in
    let s = state_of c.args.session.now c.args.progress.now in
    let t = state_of c.args.session.now c.expand.new.self in
    let back : t ≡ s = c.in_ok-expand.ensures.same c.args.session.now in
    let are = subst (λ (u : State). FieldsAre r (fields_of r words u) u c.expand.new.self.fields (Ok tt)) (sym back) c.in_ok-expand.ensures.fields in
    let free : asks_save r c.expand.new.self.fields.done t ≡ false = sym (c.if-asks_save.ensures t refl) in
    let new : State = record { held = c.carry_out.new.session; locals = c.expand.new.self.locals; status = c.in_ok-carried.carried.0; printed = c.carry_out.new.output; steps = c.expand.new.self.steps + 1; departure = c.expand.new.self.departure } in
    subst (λ (u : State). Did r (λ (q : Rules) begin v. simple q begin (have_value words) (fields_of q words v) v) (λ follow q begin. follows q begin follow) u new (Ok c.leave_of.result)) back
    (simple_done r words t c.expand.new.self.fields.done are.0 (made_fields (fields_of r words t) c.expand.new.self.fields are.1) free c.carry_out.new.session c.carry_out.new.output c.in_ok-carried.carried.0 (c.expand.new.self.steps + 1) c.in_ok-carried.carried.1 c.leave_of.result c.in_ok-carried.ensures.carries (add-one _) c.in_ok-carried.ensures.follows no_end (c.leave_of.ensures ∙ ap leave_of c.have_value.ensures ∙ ap (followed (have_value words)) (sym c.in-Leaves.is)))

pub returns-in_default : goal.returns-in_default
returns-in_default c =
    let r = rules_of c.args.given.now in
    let words = map (word_atoms c.args.text.now) c.args.words.now in
    let s = state_of c.args.session.now c.args.progress.now in
    let t = state_of c.args.session.now c.expand.new.self in
    let back : t ≡ s = c.in_ok-expand.ensures.same c.args.session.now in
    let are = subst (λ (u : State). FieldsAre r (fields_of r words u) u c.expand.new.self.fields (Ok tt)) (sym back) c.in_ok-expand.ensures.fields in
    let free : asks_save r c.expand.new.self.fields.done t ≡ false = sym (c.if-asks_save.ensures t refl) in
    let new : State = record { held = c.carry_out.new.session; locals = c.expand.new.self.locals; status = c.in_ok-carried.carried.0; printed = c.carry_out.new.output; steps = c.expand.new.self.steps + 1; departure = c.expand.new.self.departure } in
    subst (λ (u : State). Did r (λ (q : Rules) begin v. simple q begin (have_value words) (fields_of q words v) v) (λ follow q begin. follows q begin follow) u new (Ok c.in_ok-carried.carried.1)) back
    (simple_done r words t c.expand.new.self.fields.done are.0 (made_fields (fields_of r words t) c.expand.new.self.fields are.1) free c.carry_out.new.session c.carry_out.new.output c.in_ok-carried.carried.0 (c.expand.new.self.steps + 1) c.in_ok-carried.carried.1 c.in_ok-carried.carried.1 c.in_ok-carried.ensures.carries (add-one _) c.in_ok-carried.ensures.follows c.in_default.not-End (followed-other (have_value words) c.in_ok-carried.carried.1 c.in_default.not-Leaves))
