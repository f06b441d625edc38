use Rattle.std.proofs.Common.{rules as allowed, ◌≡◌, ◌+◌, map, subst, sym, ap, Err, Ok, add-one, ◌∙◌}
use Rattle.hush_words.specs.Parts.{word_atoms}
use Rattle.hush_commands.specs.Shells.{list_by}
use Rattle.hush_run.specs.Meaning.{Rules, State, for, bindings, list_words_of, list_of}
use Rattle.hush_run.specs.Steps.{Did, FieldsAre, state_of, rules_of}
use Rattle.hush_run.proofs.StepLemmas.{made_fields, no_fields, for_halts, for_large, listed, unlisted, head_empty, head_some}
use Rattle.hush_run.proofs.steps.head_step.Goals as goal

pub returns-in_err-expand_list : goal.returns-in_err-expand_list
returns-in_err-expand_list c =
    let r = rules_of c.args.given.now in
    let words = map (word_atoms c.args.text.now) c.args.words.now in
    let s = state_of c.args.session.now c.args.progress.now in
    let same : c.from_residual.result ≡ Err c.in_err-expand_list.field-0.0 = search allowed in
    rw same (λ name body. subst (λ (t : State). Did r (λ (q : Rules) begin u. for q name (list_of q words u) (body q begin) u) (λ fields q begin. bindings q name (body q begin) fields) s t (Err c.in_err-expand_list.field-0.0)) (sym (c.in_err-expand_list.ensures.same c.args.session.now))
    (no_fields r (λ q begin u. for q name (list_of q words u) (body q begin) u) (λ fields q begin. bindings q name (body q begin) fields) (list_words_of r words s) s c.expand_list.new.self.fields c.in_err-expand_list.field-0.0 c.in_err-expand_list.ensures.fields
    (λ begin le. for_halts r name (list_of r words s) (body r begin) s le)
    (λ begin lt e. for_large r name (list_of r words s) (body r begin) s lt (unlisted r words s e))))

pub returns-in_err-fields : goal.returns-in_err-fields
returns-in_err-fields c = let same = c.in_ok-expand_list.ensures.same c.args.session.now in search (allowed, same)

pub returns-then-is_empty : goal.returns-then-is_empty
returns-then-is_empty c =
    let r = rules_of c.args.given.now in
    let words = map (word_atoms c.args.text.now) c.args.words.now in
    let t = state_of c.args.session.now c.expand_list.new.self in
    let back : t ≡ state_of c.args.session.now c.args.progress.now = c.in_ok-expand_list.ensures.same c.args.session.now in
    let are = subst (λ (u : State). FieldsAre r (list_words_of r words u) u c.expand_list.new.self.fields (Ok tt)) (sym back) c.in_ok-expand_list.ensures.fields in
    let new : State = record t { status = 0; steps = c.expand_list.new.self.steps + 1 } in
    let list : c.in_ok-fields.fields ≡ list_by r.shell c.expand_list.new.self.fields.done = c.in_ok-fields.ensures ∙ ap (list_by r.shell) c.take-made.ensures.fields in
    rw list (λ name body. subst (λ (u : State). Did r (λ (q : Rules) begin v. for q name (list_of q words v) (body q begin) v) (λ fields q begin. bindings q name (body q begin) fields) u new (Ok (list_by r.shell c.expand_list.new.self.fields.done))) back
    (head_empty r words name body t (list_by r.shell c.expand_list.new.self.fields.done) (c.expand_list.new.self.steps + 1) are.0 (listed r words t c.expand_list.new.self.fields.done (made_fields (list_words_of r words t) c.expand_list.new.self.fields are.1)) (add-one _) (rw list at (sym c.is_empty.ensures ∙ c.if-is_empty.true))))

pub returns : goal.returns
returns c =
    let r = rules_of c.args.given.now in
    let words = map (word_atoms c.args.text.now) c.args.words.now in
    let t = state_of c.args.session.now c.expand_list.new.self in
    let back : t ≡ state_of c.args.session.now c.args.progress.now = c.in_ok-expand_list.ensures.same c.args.session.now in
    let are = subst (λ (u : State). FieldsAre r (list_words_of r words u) u c.expand_list.new.self.fields (Ok tt)) (sym back) c.in_ok-expand_list.ensures.fields in
    let new : State = record t { steps = c.expand_list.new.self.steps + 1 } in
    let list : c.in_ok-fields.fields ≡ list_by r.shell c.expand_list.new.self.fields.done = c.in_ok-fields.ensures ∙ ap (list_by r.shell) c.take-made.ensures.fields in
    rw list (λ name body. subst (λ (u : State). Did r (λ (q : Rules) begin v. for q name (list_of q words v) (body q begin) v) (λ fields q begin. bindings q name (body q begin) fields) u new (Ok (list_by r.shell c.expand_list.new.self.fields.done))) back
    (head_some r words name body t (list_by r.shell c.expand_list.new.self.fields.done) (c.expand_list.new.self.steps + 1) are.0 (listed r words t c.expand_list.new.self.fields.done (made_fields (list_words_of r words t) c.expand_list.new.self.fields are.1)) (add-one _) (rw list at (sym c.is_empty.ensures ∙ c.if-is_empty.false))))
