use Rattle.std.proofs.Common.{rules as allowed, ◌≡◌, ◌++◌, List, ℕ, codes, get_or, [], Some, subst, sym, ap, ◌∙◌, Err, Ok}
use Rattle.hush_words.specs.Parts.{word_atoms}
use Rattle.hush_syntax.specs.Trees.{name_in}
use Rattle.hush_commands.specs.declared.messages.Message.TheVariants.{UnknownCommand}
use Rattle.hush_run.specs.Meaning.{Rules, State, Goes, step, called, fails, fields_after}
use Rattle.hush_run.specs.Steps.{Did, FieldsAre, state_of, rules_of}
use Rattle.hush_run.proofs.StepLemmas.{made_fields, no_fields, step_halts, call_large, called_some, as_step}
use Rattle.hush_run.proofs.steps.call_step.Goals as goal

pub returns-in_err-expand_after : goal.returns-in_err-expand_after
returns-in_err-expand_after c =
    let r = rules_of c.args.given.now in
    let name = name_in c.args.text.now c.args.name in
    let word = word_atoms c.args.text.now c.args.value in
    let s = state_of c.args.session.now c.args.progress.now in
    let front : c.deref.result.now ≡ name ++ codes "=" = c.deref.ensures.value ∙ c.in_ok-extend_from_slice.ensures.items ∙ ap (λ (x : List ℕ). x ++ codes "=") c.in_ok-read_name.ensures in
    let are = subst (λ (x : List ℕ). FieldsAre r (fields_after r x word s) s c.expand_after.new.self.fields (Err c.in_err-expand_after.field-0.0)) front c.in_err-expand_after.ensures.fields in
    let same : c.from_residual-in_err-expand_after.result ≡ Err c.in_err-expand_after.field-0.0 = search allowed in
    rw same (subst (λ (t : State). Did r (λ (q : Rules) begin. step q (called q name word)) (λ (u : Unit {0}) q begin. Goes) s t (Err c.in_err-expand_after.field-0.0)) (sym (c.in_err-expand_after.ensures.same c.args.session.now))
    (no_fields r (λ q begin. step q (called q name word)) (λ (u : Unit {0}) q begin. Goes) (fields_after r (name ++ codes "=") word s) s c.expand_after.new.self.fields c.in_err-expand_after.field-0.0 are
    (λ begin le. step_halts r (called r name word) s le)
    (λ begin lt e. call_large r name word s lt e)))

pub returns : goal.returns
returns c =
    let r = rules_of c.args.given.now in
    let name = name_in c.args.text.now c.args.name in
    let word = word_atoms c.args.text.now c.args.value in
    let t = state_of c.args.session.now c.expand_after.new.self in
    let made = c.expand_after.new.self.fields in
    let front : c.deref.result.now ≡ name ++ codes "=" = c.deref.ensures.value ∙ c.in_ok-extend_from_slice.ensures.items ∙ ap (λ (x : List ℕ). x ++ codes "=") c.in_ok-read_name.ensures in
    let back : t ≡ state_of c.args.session.now c.args.progress.now = c.in_ok-expand_after.ensures.same c.args.session.now in
    let are = subst (λ (u : State). FieldsAre r (fields_after r c.deref.result.now word u) u made (Ok tt)) (sym back) c.in_ok-expand_after.ensures.fields in
    let fields : fields_after r (name ++ codes "=") word t ≡ Some made.done = ap (λ (x : List ℕ). fields_after r x word t) (sym front) ∙ made_fields (fields_after r c.deref.result.now word t) made are.1 in
    let first : c.called_in.result.now ≡ get_or made.done 0 [] = c.called_in.ensures ∙ ap (λ (fs : List (List ℕ)). get_or fs 0 []) c.take-fields.ensures.fields in
    subst (λ (u : State). Did r (λ (q : Rules) begin. step q (called q name word)) (λ (x : Unit {0}) q begin. Goes) u (state_of c.args.session.now c.fail.new.self) c.fail.result) back
    (as_step r (called r name word) (fails UnknownCommand c.called_in.result.now) t (state_of c.args.session.now c.fail.new.self) c.fail.result
    (called_some r name word t made.done c.called_in.result.now fields first)
    (c.fail.ensures.told r c.args.session.now are.0))
