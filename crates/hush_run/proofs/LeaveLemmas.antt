-- What an `exit` leaves on its way out of its text.
use Rattle.std.proofs.Common.{◌≡◌, ℕ, ◌≤◌, List, [], ◌∷◌, drop, length, Ok, Err, refl, sym, ap, subst, ◌∙◌, arith}
use Rattle.hush_syntax.specs.Scripts.{Parsed}
use Rattle.hush_syntax.specs.Nodes.{At}
use Rattle.hush_run.specs.declared.frames.Frame.{Frame}
use Rattle.hush_run.specs.declared.frames.Frame.TheVariants as frame
use Rattle.hush_run.specs.declared.descent.Passed.{Passed}
use Rattle.hush_run.specs.declared.descent.Passed.TheVariants as passed
use Rattle.hush_run.specs.declared.due.Due.{Due}
use Rattle.hush_run.specs.declared.ending.Ending.TheVariants as ending
use Rattle.hush_run.specs.Meaning.{Rules, Begin, State, Out, Goes, Leaves, with_status, if_ok, in_turn}
use Rattle.hush_run.specs.Resume.{at_in, begin_in, behind, frame_room, owners, resume, IsStack}
use Rattle.hush_run.specs.Turns.{IsDue, due_does, due_room}
use Rattle.hush_run.specs.Rises.{LeavesText, passed_of}
use Rattle.hush_run.proofs.RiseLemmas.{owners-fewer}

-- what is left of an `exit` behind what it has passed, and the scripts that then run
abbrev left_by : Rules → List Parsed → List Frame → (own : ℕ) → State → Passed → Out
left_by rules scripts frames own s passed.List = resume rules scripts frames (Leaves 0 (with_status own s))
left_by rules scripts frames own s passed.Other = resume rules scripts frames (Leaves own s)
left_by rules scripts frames own s (passed.Text names) = resume rules (behind scripts) frames (if_ok (in_turn (begin_in rules (behind scripts)) (drop 1 names)) Goes s)

leave_frame : (rules : Rules) (scripts : List Parsed) (f : Frame) (fs : List Frame) (own : ℕ) (s : State) → resume rules scripts (f ∷ fs) (Leaves own s) ≡ left_by rules scripts fs own s (passed_of f)
leave_frame rules scripts (frame.List node next) fs own s = refl
leave_frame rules scripts (frame.Chain node next) fs own s = refl
leave_frame rules scripts (frame.Branch node branch) fs own s = refl
leave_frame rules scripts (frame.Condition node last) fs own s = refl
leave_frame rules scripts (frame.Body node) fs own s = refl
leave_frame rules scripts (frame.Bindings node fields) fs own s = refl
leave_frame rules scripts (frame.Started []) fs own s = refl
leave_frame rules scripts (frame.Started (name ∷ names)) fs own s = refl

abbrev scripts_by : List Parsed → Passed → List Parsed
scripts_by scripts passed.List = scripts
scripts_by scripts passed.Other = scripts
scripts_by scripts (passed.Text names) = behind scripts

owners_are : (f : Frame) (scripts : List Parsed) → owners f scripts ≡ scripts_by scripts (passed_of f)
owners_are (frame.List node next) scripts = refl
owners_are (frame.Chain node next) scripts = refl
owners_are (frame.Branch node branch) scripts = refl
owners_are (frame.Condition node last) scripts = refl
owners_are (frame.Body node) scripts = refl
owners_are (frame.Bindings node fields) scripts = refl
owners_are (frame.Started names) scripts = refl

-- the room for a start
abbrev room_by : Passed → ℕ
room_by passed.List = 0
room_by passed.Other = 0
room_by (passed.Text names) = 1

room_is : (at : At) (f : Frame) → room_by (passed_of f) ≤ frame_room at f
room_is at (frame.List node next) = omega arith
room_is at (frame.Chain node next) = omega arith
room_is at (frame.Branch node branch) = omega arith
room_is at (frame.Condition node last) = omega arith
room_is at (frame.Body node) = omega arith
room_is at (frame.Bindings node fields) = omega arith
room_is at (frame.Started names) = omega arith

-- it has come to these frames, with this status for the innermost list that is left
abbrev pub OnTheWay : List Parsed → List Frame → (own status : ℕ) → List Parsed → List Frame → (inner now : ℕ) → Type 0
OnTheWay scripts frames own status scripts' frames' inner now =
    IsStack scripts' frames' × (1 ≤ length scripts') × (length scripts' ≤ length scripts)
    × ((rules : Rules) (s : State) → resume rules scripts frames (Leaves own (with_status status s)) ≡ resume rules scripts' frames' (Leaves inner (with_status now s)))

module _ (scripts calls after : List Parsed) (first frames fs : List Frame) (own status inner now : ℕ) (f : Frame) (p : Passed) (way : OnTheWay scripts first own status calls frames inner now) (popped : frames ≡ f ∷ fs) (left : after ≡ owners f calls) (kind : p ≡ passed_of f) where
  here : OnTheWay scripts first own status calls (f ∷ fs) inner now
  here = subst (λ (x : List Frame). OnTheWay scripts first own status calls x inner now) popped way

  after_is : after ≡ scripts_by calls p
  after_is = left ∙ owners_are f calls ∙ ap (scripts_by calls) (sym kind)

  stack_after : IsStack after fs
  stack_after = subst (λ (cs : List Parsed). IsStack cs fs) (sym left) here.0.3

  some_after : 1 ≤ length after
  some_after = subst (λ (cs : List Parsed). 1 ≤ length cs) (sym left) here.0.0

  fewer_after : length after ≤ length scripts
  fewer_after = let fewer = owners-fewer f calls in let same = ap (λ (cs : List Parsed). length cs) left in omega (arith, here.2, fewer, same)

  passes : (rules : Rules) (s : State) → resume rules scripts first (Leaves own (with_status status s)) ≡ left_by rules calls fs inner (with_status now s) p
  passes rules s = here.3 rules s ∙ leave_frame rules calls f fs inner (with_status now s) ∙ ap (left_by rules calls fs inner (with_status now s)) (sym kind)

  pub past_list : p ≡ passed.List → OnTheWay scripts first own status after fs 0 inner
  past_list is = (
    stack_after,
    some_after,
    fewer_after,
    λ rules s.
        passes rules s
        ∙ ap (left_by rules calls fs inner (with_status now s)) is
        ∙ ap (λ (cs : List Parsed). resume rules cs fs (Leaves 0 (with_status inner s))) (sym (after_is ∙ ap (scripts_by calls) is)),
  )

  pub past_other : p ≡ passed.Other → OnTheWay scripts first own status after fs inner now
  past_other is = (
    stack_after,
    some_after,
    fewer_after,
    λ rules s.
        passes rules s
        ∙ ap (left_by rules calls fs inner (with_status now s)) is
        ∙ ap (λ (cs : List Parsed). resume rules cs fs (Leaves inner (with_status now s))) (sym (after_is ∙ ap (scripts_by calls) is)),
  )

  pub out_of_text : (names : List (List ℕ)) (due : Due) → p ≡ passed.Text names → ((at : At) → IsDue at due × (due_room at due ≤ 1)) → ((rules : Rules) (begin : Begin) (at : At) (s : State) → if_ok (in_turn begin (drop 1 names)) Goes (with_status now s) ≡ due_does rules begin at due (with_status now s)) → LeavesText scripts first own status after fs now (Ok due)
  out_of_text names due is fits same =
      let fit = fits (at_in after) in
      let room = room_is (at_in (owners f calls)) f in
      let one : room_by (passed_of f) ≡ 1 = ap room_by (sym kind ∙ is) in
      let as_many = ap (λ (cs : List Parsed). length cs) left in (
        stack_after,
        fit.0,
        some_after,
        fewer_after,
        omega (arith, here.0.2, fit.1, room, one, as_many),
        λ rules s.
            passes rules s
            ∙ ap (left_by rules calls fs inner (with_status now s)) is
            ∙ ap (λ (cs : List Parsed). resume rules cs fs (if_ok (in_turn (begin_in rules cs) (drop 1 names)) Goes (with_status now s))) (sym (after_is ∙ ap (scripts_by calls) is))
            ∙ ap (λ (o : Out). resume rules after fs o) (same rules (begin_in rules after) (at_in after) s),
      )

-- no text was started
pub out_of_script : (scripts calls : List Parsed) (first frames : List Frame) (own status inner now : ℕ) → OnTheWay scripts first own status calls frames inner now → frames ≡ [] → LeavesText scripts first own status calls frames now (Err ending.Exited)
out_of_script scripts calls first frames own status inner now way none =
    (refl, none, inner, λ rules s. way.3 rules s ∙ ap (λ (fs : List Frame). resume rules calls fs (Leaves inner (with_status now s))) none)
