-- Marks that go backwards over the ways.
use Rattle.std.proofs.Common.{◌≡◌, ℕ, zero, suc, ◌<◌, List, [], ◌∷◌, ◌++◌, length, get_or, set, refl, ap, sym, ◌∙◌, subst, inl, inr, ⊎_elim, arith, Bool, true, false, true≢false, get_or-set_other, Some}
use Rattle.std.specs.Prelude.{All, Contains, slice_get, ◌||◌}
use Rattle.std.proofs.lemmas.Bool.{cases_eq}
use Rattle.std.proofs.lemmas.Option.{slice_get_within, same_Some}
use Rattle.std.proofs.lemmas.List.{length-set}
use Rattle.std.proofs.lemmas.List.Elements.{All-nil, All-push, All-contains}
use Rattle.boot_search.specs.Endings.{IsEnding}
use Rattle.std.proofs.Common.{Option, Vec, Global, vec_len}
use Rattle.boot_search.specs.declared.exploring.Report.{Report}
use Rattle.boot_search.specs.Reports.{IsReport, steps_of}
use Rattle.boot_search.specs.Bootable.{IsSurvey}
use Rattle.boot_search.proofs.PlaceLemmas.{stored_long}
use Rattle.boot_search.specs.Reports.{Meaning, Step, IsStep, Covers, IsExplored, step_by, ending_by}
use Rattle.boot_search.specs.Bootable.{AreMarks, BootsAfter, BootsBy, IsWithin, Leads, AreBootable, IsClosed, IsMarked, unmarked}

pub unmarked_set : (marks : List Bool) (i : ℕ) → i < length marks → get_or marks i false ≡ false → unmarked (set marks i true) < unmarked marks
unmarked_set [] i l e = absurd (omega (arith, l))
unmarked_set (true ∷ marks) zero l e = absurd (true≢false e)
unmarked_set (false ∷ marks) zero l e = omega arith
unmarked_set (true ∷ marks) (suc i) l e = unmarked_set marks i (omega arith) e
unmarked_set (false ∷ marks) (suc i) l e = let less = unmarked_set marks i (omega arith) e in omega arith

-- a pass that has gone over the first ways
pub record Passing (unknown : Bool) (ways : List Step) (old : List Bool) (gone : List Step) (marks : List Bool) (changed : Bool) : Type 0 where
  pub long : length marks ≡ length old
  pub boots : AreBootable unknown ways old → AreBootable unknown ways marks
  pub still : changed ≡ false → (marks ≡ old) × All (IsClosed unknown old) gone
  pub fewer : changed ≡ true → unmarked marks < unmarked old

pub pass_starts : (unknown : Bool) → (ways : List Step) (old : List Bool) → Passing unknown ways old [] old false
pass_starts unknown ways old = record { long = refl; boots = λ b. b; still = λ e. (refl, All-nil (IsClosed unknown old)); fewer = λ e. absurd (true≢false (sym e)) }

pub boots_more : (unknown : Bool) → (ways : List Step) (marks : List Bool) (w : Step) → Contains ways w → Leads unknown marks w → AreBootable unknown ways marks → AreBootable unknown ways (set marks w.from true)
boots_more unknown ways marks w has leads boots state e =
    elim (cases_eq w.from state) [
      | inl same ↦ ⊎_elim
          (λ now. (0, (w, has, same, now)))
          (λ later. let n = boots w.to later in (suc n.0, (w, has, same, n.1))) leads
      | inr other ↦ boots state (sym (get_or-set_other marks w.from state true false (λ back. other (sym back))) ∙ e)
    ]

pub pass_goes_on : (unknown : Bool) → (ways : List Step) (old : List Bool) (gone : List Step) (marks : List Bool) (changed : Bool) (w : Step) (new : Bool) (after : List Bool)
    → Contains ways w → w.from < length marks → IsMarked unknown w marks new after → Passing unknown ways old gone marks changed → Passing unknown ways old (gone ++ w ∷ []) after (changed || new)
pass_goes_on unknown ways old gone marks true w true after has l m p = record {
  long = ap length m.2 ∙ length-set marks w.from true ∙ p.long;
  boots = λ b. subst (λ (t : List Bool). AreBootable unknown ways t) (sym m.2) (boots_more unknown ways marks w has m.0 (p.boots b));
  still = λ e. absurd (true≢false e);
  fewer = λ e. let less : unmarked after < unmarked marks = subst (λ (t : List Bool). unmarked t < unmarked marks) (sym m.2) (unmarked_set marks w.from l m.1) in let before = p.fewer refl in omega arith;
}
pass_goes_on unknown ways old gone marks false w true after has l m p = record {
  long = ap length m.2 ∙ length-set marks w.from true ∙ p.long;
  boots = λ b. subst (λ (t : List Bool). AreBootable unknown ways t) (sym m.2) (boots_more unknown ways marks w has m.0 (p.boots b));
  still = λ e. absurd (true≢false e);
  fewer = λ e. subst (λ (t : List Bool). unmarked after < unmarked t) (p.still refl).0 (subst (λ (t : List Bool). unmarked t < unmarked marks) (sym m.2) (unmarked_set marks w.from l m.1));
}
pass_goes_on unknown ways old gone marks true w false after has l m p = record {
  long = ap length m.0 ∙ p.long;
  boots = λ b. subst (λ (t : List Bool). AreBootable unknown ways t) (sym m.0) (p.boots b);
  still = λ e. absurd (true≢false e);
  fewer = λ e. subst (λ (t : List Bool). unmarked t < unmarked old) (sym m.0) (p.fewer refl);
}
pass_goes_on unknown ways old gone marks false w false after has l m p = record {
  long = ap length m.0 ∙ p.long;
  boots = λ b. subst (λ (t : List Bool). AreBootable unknown ways t) (sym m.0) (p.boots b);
  still = λ e. (m.0 ∙ (p.still refl).0, All-push (IsClosed unknown old) gone w (p.still refl).1 (subst (λ (t : List Bool). IsClosed unknown t w) (p.still refl).0 m.1));
  fewer = λ e. absurd (true≢false (sym e));
}

-- where no way leads on to a state that is not marked, each state that can boot is marked
pub closed_boots : (unknown : Bool) → (ways : List Step) (marks : List Bool) → All (IsClosed unknown marks) ways → (n state : ℕ) → BootsBy unknown ways n state → get_or marks state false ≡ true
closed_boots unknown ways marks closed zero state (w, has, from, now) = subst (λ (k : ℕ). get_or marks k false ≡ true) from (All-contains (IsClosed unknown marks) ways w closed has (inl now))
closed_boots unknown ways marks closed (suc n) state (w, has, from, on) =
    subst (λ (k : ℕ). get_or marks k false ≡ true) from (All-contains (IsClosed unknown marks) ways w closed has (inr (closed_boots unknown ways marks closed n w.to on)))

-- what listed ways say of a boot is what the board does
pub listed_boots : (unknown : Bool) → (runs : Meaning) (states : List (List ℕ)) (ways : List Step) → All (IsStep runs states) ways
    → (n i : ℕ) (state : List ℕ) → slice_get states i ≡ Some state → BootsBy unknown ways n i → BootsAfter unknown runs n state
listed_boots unknown runs states ways steps zero i state at (w, has, from, now) =
    let step : IsStep runs states w = All-contains (IsStep runs states) ways w steps has in
    let same : step.0 ≡ state = same_Some step.0 state (sym step.2 ∙ ap (λ (k : ℕ). slice_get states k) from ∙ at) in
    (ending_by w step.1, subst (λ (s : List ℕ). IsEnding (runs s) (ending_by w step.1)) same step.4, now)
listed_boots unknown runs states ways steps (suc n) i state at (w, has, from, on) =
    let step : IsStep runs states w = All-contains (IsStep runs states) ways w steps has in
    let same : step.0 ≡ state = same_Some step.0 state (sym step.2 ∙ ap (λ (k : ℕ). slice_get states k) from ∙ at) in
    (ending_by w step.1, subst (λ (s : List ℕ). IsEnding (runs s) (ending_by w step.1)) same step.4, listed_boots unknown runs states ways steps n w.to step.1 step.3 on)

pub boots_listed : (unknown : Bool) → (runs : Meaning) (states : List (List ℕ)) (ways : List Step) → ((i : ℕ) → Covers runs states ways i)
    → (n i : ℕ) (state : List ℕ) → slice_get states i ≡ Some state → BootsAfter unknown runs n state → BootsBy unknown ways n i
boots_listed unknown runs states ways covers zero i state at (e, is, now) =
    let listed = covers i state e at is in
    (step_by i e listed.0, listed.1, refl, now)
boots_listed unknown runs states ways covers (suc n) i state at (e, is, on) =
    let listed = covers i state e at is in
    (step_by i e listed.0, listed.1, refl, boots_listed unknown runs states ways covers n listed.0 e.next listed.2 on)

pub within_listed : (runs : Meaning) (states : List (List ℕ)) (ways : List Step) → All (IsStep runs states) ways → All (IsWithin (length states)) ways
within_listed runs states ways steps k d l =
    let step = steps k d l in (slice_get_within states _ step.0 step.2, slice_get_within states _ step.1 step.3)

pub marks_are : (unknown : Bool) (runs : Meaning) (start : List ℕ) (complete : Bool) (states : List (List ℕ)) (reached : List (Option ℕ)) (ways : List Step) (marks : List Bool)
    → IsExplored runs start complete states reached ways → AreBootable unknown ways marks → All (IsClosed unknown marks) ways → AreMarks unknown runs complete states marks
marks_are unknown runs start complete states reached ways marks r boots closed = record {
  some = λ i state at marked. (let n = boots i marked in (n.0, listed_boots unknown runs states ways r.steps.each n.0 i state at n.1));
  none = λ whole i state at no_mark n after.
      true≢false (sym (closed_boots unknown ways marks closed n i (boots_listed unknown runs states ways (r.covers whole) n i state at after)) ∙ no_mark);
}

pub within_count : (runs : Meaning) (start : List ℕ) (r : Report) (count : ℕ) → count ≡ vec_len r.stored → IsReport runs start r → All (IsWithin count) (steps_of r.ways.items)
within_count runs start r count is report =
    subst (λ (n : ℕ). All (IsWithin n) (steps_of r.ways.items)) (stored_long r.stored ∙ sym is) (within_listed runs _ _ report.steps.each)

pub survey_is : (runs : Meaning) (start : List ℕ) (r : Report) (boots may_boot : Vec Bool Global) (count : ℕ) → count ≡ vec_len r.stored → IsReport runs start r
    → length boots.items ≡ count → length may_boot.items ≡ count → IsSurvey (record { report = r; boots = boots; may_boot = may_boot })
survey_is runs start r boots may_boot count is report first second =
    let long : count ≡ length r.stored.items = is ∙ r.stored.ok.0 in
    record {
      within = subst (λ (n : ℕ). All (IsWithin n) (steps_of r.ways.items)) long (within_count runs start r count is report);
      reached = report.steps.behind;
      boots = first ∙ long;
      may_boot = second ∙ long;
    }
