use Rattle.std.proofs.Common.{rules as allowed, ◌≡◌, ◌∷◌, List, subst, sym, Ok, Err, true, false, drop, if◌then◌else◌, Bool}
use Rattle.hush_words.specs.Parts.{Written}
use Rattle.hush_syntax.specs.Scripts.{Parsed}
use Rattle.hush_syntax.specs.Trees.{name_in}
use Rattle.hush_run.specs.declared.frames.Frame.TheVariants as frame
use Rattle.hush_run.specs.declared.due.Due.TheVariants as due
use Rattle.hush_run.specs.Meaning.{Rules, Goes, ◌then◌, bindings, chains}
use Rattle.hush_run.specs.Resume.{behind}
use Rattle.hush_run.specs.Advances.{Advances, IsReady}
use Rattle.hush_run.specs.Runs.{reason_of}
use Rattle.hush_run.specs.Steps.{Did, state_of, rules_of}
use Rattle.hush_run.proofs.AdvanceLemmas.{bound_goes, bound_not, bound_stops}
use Rattle.hush_run.proofs.due.binding_due.Goals as goal

pub returns-else-not-bound : goal.returns-else-not-bound
returns-else-not-bound c =
    let r = rules_of c.args.given.now in
    let top = c.top-script.result.now in
    let h = rw c.in-For.is at c.node.ensures in
    let s = state_of c.args.session.now c.args.progress.now in
    let t = state_of c.args.session.now c.bind_step.new.progress in
    let split : c.args.fields ≡ c.in-Some.field.now ∷ c.advance.new.self = search allowed in
    let ready = subst (λ (cs : List Parsed). IsReady r cs c.args.frames.now.frames c.args.frames.now.capacity (due.Binding c.args.node c.args.fields)) c.top-script.ensures c.requires.ready in
    let isbound : c.in-Ok.bound ≡ true = search allowed in
    let did = subst (λ (text : Written). Did r (λ (q : Rules) begin. bindings q (name_in text c.in-For.name) (chains q begin h.0) (c.in-Some.field.now ∷ c.advance.new.self)) (λ bound q begin. if bound then (chains q begin h.0 then bindings q (name_in text c.in-For.name) (chains q begin h.0) c.advance.new.self) else Goes) s t (Ok true)) c.text.ensures (subst (λ (b : Bool). Did r (λ (q : Rules) begin. bindings q (name_in c.text.result.now c.in-For.name) (chains q begin h.0) (c.in-Some.field.now ∷ c.advance.new.self)) (λ bound q begin. if bound then (chains q begin h.0 then bindings q (name_in c.text.result.now c.in-For.name) (chains q begin h.0) c.advance.new.self) else Goes) s t (Ok b)) isbound (c.in-Ok.ensures c.advance.new.self (λ q begin. chains q begin h.0))) in
    rw c.push.ensures (subst (λ (cs : List Parsed). Advances r cs c.args.frames.now.frames (due.Binding c.args.node c.args.fields) s cs (frame.Bindings c.args.node c.advance.new.self ∷ c.args.frames.now.frames) c.args.frames.now.capacity t (Ok (due.Node c.in-For.body))) (sym c.top-script.ensures)
    (bound_goes r top (behind c.args.calls.now) c.args.frames.now.frames c.args.frames.now.capacity c.args.node c.in-For.body (name_in top.text c.in-For.name) c.in-Some.field.now c.args.fields c.args.fields c.advance.new.self _ h.0 s t h.1 h.2 split ready did))

pub returns-then-not-bound : goal.returns-then-not-bound
returns-then-not-bound c =
    let r = rules_of c.args.given.now in
    let top = c.top-script.result.now in
    let h = rw c.in-For.is at c.node.ensures in
    let s = state_of c.args.session.now c.args.progress.now in
    let t = state_of c.args.session.now c.bind_step.new.progress in
    let left = drop 1 c.args.fields in
    let split : c.args.fields ≡ c.in-Some.field.now ∷ drop 1 c.args.fields = search allowed in
    let ready = subst (λ (cs : List Parsed). IsReady r cs c.args.frames.now.frames c.args.frames.now.capacity (due.Binding c.args.node c.args.fields)) c.top-script.ensures c.requires.ready in
    let isnot : c.in-Ok.bound ≡ false = search allowed in
    let did = subst (λ (text : Written). Did r (λ (q : Rules) begin. bindings q (name_in text c.in-For.name) (chains q begin h.0) (c.in-Some.field.now ∷ left)) (λ bound q begin. if bound then (chains q begin h.0 then bindings q (name_in text c.in-For.name) (chains q begin h.0) left) else Goes) s t (Ok false)) c.text.ensures (subst (λ (b : Bool). Did r (λ (q : Rules) begin. bindings q (name_in c.text.result.now c.in-For.name) (chains q begin h.0) (c.in-Some.field.now ∷ left)) (λ bound q begin. if bound then (chains q begin h.0 then bindings q (name_in c.text.result.now c.in-For.name) (chains q begin h.0) left) else Goes) s t (Ok b)) isnot (c.in-Ok.ensures left (λ q begin. chains q begin h.0))) in
    subst (λ (cs : List Parsed). Advances r cs c.args.frames.now.frames (due.Binding c.args.node c.args.fields) s cs c.args.frames.now.frames c.args.frames.now.capacity t (Ok due.Over)) (sym c.top-script.ensures)
    (bound_not r top (behind c.args.calls.now) c.args.frames.now.frames c.args.frames.now.capacity c.args.node c.in-For.body (name_in top.text c.in-For.name) c.in-Some.field.now c.args.fields c.args.fields left _ h.0 s t h.1 h.2 split ready did)

pub returns-in-Err : goal.returns-in-Err
returns-in-Err c =
    let r = rules_of c.args.given.now in
    let top = c.top-script.result.now in
    let h = rw c.in-For.is at c.node.ensures in
    let s = state_of c.args.session.now c.args.progress.now in
    let t = state_of c.args.session.now c.bind_step.new.progress in
    let left = drop 1 c.args.fields in
    let split : c.args.fields ≡ c.in-Some.field.now ∷ drop 1 c.args.fields = search allowed in
    let ready = subst (λ (cs : List Parsed). IsReady r cs c.args.frames.now.frames c.args.frames.now.capacity (due.Binding c.args.node c.args.fields)) c.top-script.ensures c.requires.ready in
    let did = subst (λ (text : Written). Did r (λ (q : Rules) begin. bindings q (name_in text c.in-For.name) (chains q begin h.0) (c.in-Some.field.now ∷ left)) (λ bound q begin. if bound then (chains q begin h.0 then bindings q (name_in text c.in-For.name) (chains q begin h.0) left) else Goes) s t (Err c.in-Err.ending)) c.text.ensures (c.in-Err.ensures left (λ q begin. chains q begin h.0)) in
    subst (λ (cs : List Parsed). Advances r cs c.args.frames.now.frames (due.Binding c.args.node c.args.fields) s cs c.args.frames.now.frames c.args.frames.now.capacity t (Err c.in-Err.ending)) (sym c.top-script.ensures)
    (bound_stops r top (behind c.args.calls.now) c.args.frames.now.frames c.args.frames.now.capacity c.args.node c.in-For.body (name_in top.text c.in-For.name) c.in-Some.field.now c.args.fields c.args.fields left _ h.0 s t h.1 h.2 split ready (reason_of c.in-Err.ending) did)
