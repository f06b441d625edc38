use Rattle.std.proofs.Common.{ap, subst, arith, Ok, Err, refl, map}
use Rattle.hush_words.specs.Parts.{Written, word_atoms}
use Rattle.hush_syntax.specs.Grammar.{Simple, Assign, For}
use Rattle.hush_syntax.specs.Scripts.{subtree_at}
use Rattle.hush_syntax.specs.Trees.{name_in, words_in}
use Rattle.hush_run.specs.declared.due.Due.TheVariants as due
use Rattle.hush_run.specs.declared.node_step.After.TheVariants as after
use Rattle.hush_run.specs.Meaning.{Rules, Goes, step, simple, follows, have_value, fields_of, assigned, for, list_of, bindings, chains}
use Rattle.hush_run.specs.Resume.{room}
use Rattle.hush_run.specs.Runs.{reason_of}
use Rattle.hush_run.specs.Steps.{Did, state_of, rules_of}
use Rattle.hush_run.proofs.NodeLemmas.{node_did, node_stopped, fits_more}
use Rattle.hush_run.proofs.node_step.node_step.Goals as goal

pub returns-in-Ok-clause-step : goal.returns-in-Ok-clause-step
returns-in-Ok-clause-step c =
    let r = rules_of c.args.given.now in
    let h = rw c.in-Simple.is at c.node.ensures in
    let s = state_of c.args.session.now c.args.progress.now in
    let t = state_of c.simple_step.new.session c.simple_step.new.progress in
    let words = words_in c.args.script.now.text c.in-Simple.words.now in
    let did = subst (λ (text : Written). Did r (λ (q : Rules) begin u. simple q begin (have_value (map (word_atoms text) c.in-Simple.words.now)) (fields_of q (map (word_atoms text) c.in-Simple.words.now) u) u) (λ follow q begin. follows q begin follow) s t (Ok c.in-Ok.follow)) c.text.ensures c.in-Ok.ensures in
    node_did r (subtree_at c.args.script.now) c.args.node (Simple words) s t h (λ follow q begin. follows q begin follow) c.in-Ok.follow c.after_simple.result did (λ q begin. c.after_simple.ensures.same q begin (subtree_at c.args.script.now) t refl)

pub returns-in-Ok-clause-fits : goal.returns-in-Ok-clause-fits
returns-in-Ok-clause-fits c =
    let h = rw c.in-Simple.is at c.node.ensures in
    let e = ap room h in
    fits_more (subtree_at c.args.script.now) 1 (room (subtree_at c.args.script.now c.args.node)) c.after_simple.result (omega (arith, e)) (c.after_simple.ensures.fits (subtree_at c.args.script.now))

pub returns-in-Ok-assign_step-clause-step : goal.returns-in-Ok-assign_step-clause-step
returns-in-Ok-assign_step-clause-step c =
    let r = rules_of c.args.given.now in
    let h = rw c.in-Assign.is at c.node.ensures in
    let s = state_of c.args.session.now c.args.progress.now in
    let t = state_of c.args.session.now c.assign_step.new.progress in
    let did = subst (λ (text : Written). Did r (λ (q : Rules) begin. step q (assigned q (name_in text c.in-Assign.name) (word_atoms text c.in-Assign.value))) (λ (u : Unit {0}) q begin. Goes) s t (Ok tt)) c.text-in-Assign.ensures c.in-Ok-assign_step.ensures in
    node_did r (subtree_at c.args.script.now) c.args.node (Assign (name_in c.args.script.now.text c.in-Assign.name) (word_atoms c.args.script.now.text c.in-Assign.value)) s t h (λ (u : Unit {0}) q begin. Goes) tt (after.Goes due.Over) did (λ q begin. refl)

pub returns-in-Err-assign_step-clause-step : goal.returns-in-Err-assign_step-clause-step
returns-in-Err-assign_step-clause-step c =
    let r = rules_of c.args.given.now in
    let h = rw c.in-Assign.is at c.node.ensures in
    let s = state_of c.args.session.now c.args.progress.now in
    let t = state_of c.args.session.now c.assign_step.new.progress in
    let did = subst (λ (text : Written). Did r (λ (q : Rules) begin. step q (assigned q (name_in text c.in-Assign.name) (word_atoms text c.in-Assign.value))) (λ (u : Unit {0}) q begin. Goes) s t (Err c.in-Err-assign_step.ending)) c.text-in-Assign.ensures c.in-Err-assign_step.ensures in
    node_stopped r (subtree_at c.args.script.now) c.args.node (Assign (name_in c.args.script.now.text c.in-Assign.name) (word_atoms c.args.script.now.text c.in-Assign.value)) s t h (reason_of c.in-Err-assign_step.ending) did

pub returns-in-Ok-head_step-clause-step : goal.returns-in-Ok-head_step-clause-step
returns-in-Ok-head_step-clause-step c =
    let r = rules_of c.args.given.now in
    let h = rw c.in-For.is at c.node.ensures in
    let s = state_of c.args.session.now c.args.progress.now in
    let t = state_of c.args.session.now c.head_step.new.progress in
    let name = name_in c.args.script.now.text c.in-For.name in
    let words = words_in c.args.script.now.text c.in-For.words.now in
    let did = subst (λ (text : Written). Did r (λ (q : Rules) begin u. for q name (list_of q (map (word_atoms text) c.in-For.words.now) u) (chains q begin h.0) u) (λ fields q begin. bindings q name (chains q begin h.0) fields) s t (Ok c.in-Ok-head_step.fields)) c.text-in-For.ensures (c.in-Ok-head_step.ensures name (λ q begin. chains q begin h.0)) in
    node_did r (subtree_at c.args.script.now) c.args.node (For name words h.0) s t h.1 (λ fields q begin. bindings q name (chains q begin h.0) fields) c.in-Ok-head_step.fields (after.Goes c.due_binding.result) did
    (λ q begin. c.due_binding.ensures.same q begin (subtree_at c.args.script.now) name words h.0 t h.1)

pub returns-in-Ok-head_step-clause-fits : goal.returns-in-Ok-head_step-clause-fits
returns-in-Ok-head_step-clause-fits c =
    let h = rw c.in-For.is at c.node.ensures in
    c.due_binding.ensures.due (subtree_at c.args.script.now) (name_in c.args.script.now.text c.in-For.name) (words_in c.args.script.now.text c.in-For.words.now) h.0 h.1

pub returns-in-Err-head_step-clause-step : goal.returns-in-Err-head_step-clause-step
returns-in-Err-head_step-clause-step c =
    let r = rules_of c.args.given.now in
    let h = rw c.in-For.is at c.node.ensures in
    let s = state_of c.args.session.now c.args.progress.now in
    let t = state_of c.args.session.now c.head_step.new.progress in
    let name = name_in c.args.script.now.text c.in-For.name in
    let words = words_in c.args.script.now.text c.in-For.words.now in
    let did = subst (λ (text : Written). Did r (λ (q : Rules) begin u. for q name (list_of q (map (word_atoms text) c.in-For.words.now) u) (chains q begin h.0) u) (λ fields q begin. bindings q name (chains q begin h.0) fields) s t (Err c.in-Err-head_step.ending)) c.text-in-For.ensures (c.in-Err-head_step.ensures name (λ q begin. chains q begin h.0)) in
    node_stopped r (subtree_at c.args.script.now) c.args.node (For name words h.0) s t h.1 (reason_of c.in-Err-head_step.ending) did
