-- The list of states and the list of ways as they grow, and what a whole report says.
use Rattle.std.proofs.Common.{◌≡◌, ℕ, zero, suc, ◌<◌, ◌+◌, List, [], ◌∷◌, ◌++◌, length, ap, sym, ◌∙◌, subst, inl, inr, ⊎_elim, arith, append_assoc, Option, Some}
use Rattle.std.specs.Prelude.{All, Contains, slice_get}
use Rattle.std.proofs.lemmas.Bool.{cases_lt}
use Rattle.std.proofs.lemmas.Option.{same_Some, slice_get_within}
use Rattle.std.proofs.lemmas.List.Elements.{All-push, All-contains, All-weaker, Contains-push, Contains-append_left}
use Rattle.std.proofs.lemmas.List.{append-nil, length-append}
use Rattle.boot_search.specs.Endings.{Ended, IsEnding}
use Rattle.boot_search.specs.Reports.{Meaning, Step, IsStep, IsReached, AreSteps, IsListed, Covers, Reaches, Grows, Adds, step_by, ending_by}
use Rattle.boot_search.proofs.Lists.{get_front, get_last, get_back, get_cases, Contains_from_get, get_from_Contains}

module _ {S T : List (List ℕ)} {W V : List Step} (g : Grows S W T V) where
  pub grows_state : (i : ℕ) (s : List ℕ) → slice_get S i ≡ Some s → slice_get T i ≡ Some s
  grows_state i s e = subst (λ (t : List (List ℕ)). slice_get t i ≡ Some s) (sym g.stored_go_on.1) (get_front S g.stored_go_on.0 i s e)

  pub grows_way : (i : ℕ) (w : Step) → slice_get W i ≡ Some w → slice_get V i ≡ Some w
  grows_way i w e = subst (λ (t : List Step). slice_get t i ≡ Some w) (sym g.ways_go_on.1) (get_front W g.ways_go_on.0 i w e)

  pub grows_listed : (from : ℕ) (e : Ended) → IsListed S W from e → IsListed T V from e
  grows_listed from e (to, has, is) =
      (to, subst (λ (t : List Step). Contains t (step_by from e to)) (sym g.ways_go_on.1) (Contains-append_left W g.ways_go_on.0 _ has), grows_state to e.next is)

  pub grows_step : (runs : Meaning) (w : Step) → IsStep runs S w → IsStep runs T w
  grows_step runs w (before, after, from, to, is) = (before, after, grows_state w.from before from, grows_state w.to after to, is)

  pub grows_reached : (i : ℕ) (by : Option (Option ℕ)) → IsReached W i by → IsReached V i by
  grows_reached i by (k, w, is, at, to, from) = (k, w, is, grows_way k w at, to, from)

  pub grows_covers : (runs : Meaning) (from : ℕ) → from < length S → Covers runs S W from → Covers runs T V from
  grows_covers runs from l covers state e at is =
      grows_listed from e (covers state e (get_back S g.stored_go_on.0 from state l (subst (λ (t : List (List ℕ)). slice_get t from ≡ Some state) g.stored_go_on.1 at)) is)

pub grows_self : (S : List (List ℕ)) (W : List Step) → Grows S W S W
grows_self S W = record { stored_go_on = ([], sym (append-nil S)); ways_go_on = ([], sym (append-nil W)) }

pub grows_on : {S T U : List (List ℕ)} {W V X : List Step} → Grows S W T V → Grows T V U X → Grows S W U X
grows_on {S} {T} {U} {W} {V} {X} g h = record {
  stored_go_on = (g.stored_go_on.0 ++ h.stored_go_on.0, h.stored_go_on.1 ∙ ap (λ (t : List (List ℕ)). t ++ h.stored_go_on.0) g.stored_go_on.1 ∙ append_assoc S g.stored_go_on.0 h.stored_go_on.0);
  ways_go_on = (g.ways_go_on.0 ++ h.ways_go_on.0, h.ways_go_on.1 ∙ ap (λ (t : List Step). t ++ h.ways_go_on.0) g.ways_go_on.1 ∙ append_assoc W g.ways_go_on.0 h.ways_go_on.0);
}

module _ {S T : List (List ℕ)} {R Q : List (Option ℕ)} {W V : List Step} {from : ℕ} {e : Ended} (a : Adds S R W from e T Q V) where
  added : Step
  added = step_by from e a.to

  pub adds_grows : Grows S W T V
  adds_grows = record {
    stored_go_on = ⊎_elim (λ o. ([], o.0 ∙ sym (append-nil S))) (λ n. (e.next ∷ [], n.1)) a.placed.old_or_new;
    ways_go_on = (_, a.way);
  }

  pub adds_listed : IsListed T V from e
  adds_listed = (a.to, subst (λ (t : List Step). Contains t (step_by from e a.to)) (sym a.way) (Contains-push W _), a.placed.there)

  -- the states and where they are reached from, by the cases of the placing
  adds_lengths : length R ≡ length S → length Q ≡ length T
  adds_lengths same = ⊎_elim
      (λ o. ap length o.1 ∙ same ∙ ap length (sym o.0))
      (λ n. ap length n.2 ∙ length-append R _ ∙ ap (λ (k : ℕ). k + 1) same ∙ sym (length-append S _) ∙ ap length (sym n.1)) a.placed.old_or_new

  adds_once : ((i k : ℕ) (s : List ℕ) → slice_get S i ≡ Some s → slice_get S k ≡ Some s → i ≡ k)
      → (i k : ℕ) (s : List ℕ) → slice_get T i ≡ Some s → slice_get T k ≡ Some s → i ≡ k
  adds_once once i k s at_i at_k = ⊎_elim
      (λ o. once i k s (ap (λ (t : List (List ℕ)). slice_get t i) (sym o.0) ∙ at_i) (ap (λ (t : List (List ℕ)). slice_get t k) (sym o.0) ∙ at_k))
      (λ n.
      let first = get_cases S e.next i s (ap (λ (t : List (List ℕ)). slice_get t i) (sym n.1) ∙ at_i) in
      let second = get_cases S e.next k s (ap (λ (t : List (List ℕ)). slice_get t k) (sym n.1) ∙ at_k) in
      ⊎_elim
      (λ old_i. ⊎_elim (λ old_k. once i k s old_i old_k) (λ new_k. absurd (n.3 (Contains_from_get S i e.next (old_i ∙ ap Some (sym new_k.1))))) second)
      (λ new_i. ⊎_elim (λ old_k. absurd (n.3 (Contains_from_get S k e.next (old_k ∙ ap Some (sym new_i.1))))) (λ new_k. new_i.0 ∙ sym new_k.0) second) first) a.placed.old_or_new

  adds_each : (runs : Meaning) (s : List ℕ) → slice_get S from ≡ Some s → IsEnding (runs s) e → All (IsStep runs S) W → All (IsStep runs T) V
  adds_each runs s at is each =
      let last : Step = step_by from e a.to in
      subst (λ (t : List Step). All (IsStep runs T) t) (sym a.way)
      (All-push (IsStep runs T) W last (All-weaker (IsStep runs S) (IsStep runs T) (grows_step adds_grows runs) W each)
      (s, e.next, grows_state adds_grows from s at, a.placed.there, is))

  adds_behind : from < length S → length R ≡ length S → ((i : ℕ) → 0 < i → i < length S → IsReached W i (slice_get R i))
      → (i : ℕ) → 0 < i → i < length T → IsReached V i (slice_get Q i)
  adds_behind within same behind i more l = ⊎_elim
      (λ o.
      let less : i < length S = subst (λ (t : List (List ℕ)). i < length t) o.0 l in
      subst (λ (q : List (Option ℕ)). IsReached V i (slice_get q i)) (sym o.1) (grows_reached adds_grows i (slice_get R i) (behind i more less)))
      (λ n.
      let long : length T ≡ length S + 1 = ap length n.1 ∙ length-append S _ in
      elim (cases_lt i (length S)) [
        | inl less ↦
            let was = behind i more less in
            let at : slice_get Q i ≡ Some (Some was.0) = ap (λ (q : List (Option ℕ)). slice_get q i) n.2 ∙ get_front R _ i (Some was.0) was.2 in
            grows_reached adds_grows i (slice_get Q i) (was.0, was.1, at, was.3, was.4, was.5)
        | inr no_less ↦
            let here : i ≡ length S = omega arith in
            let last : Step = step_by from e a.to in
            let at : slice_get Q i ≡ Some (Some (length W)) =
            ap (λ (q : List (Option ℕ)). slice_get q i) n.2 ∙ ap (λ (k : ℕ). slice_get (R ++ Some (length W) ∷ []) k) (here ∙ sym same) ∙ get_last R (Some (length W)) in
            (length W, last, at, ap (λ (v : List Step). slice_get v (length W)) a.way ∙ get_last W last, n.0 ∙ sym here, omega arith)
      ]) a.placed.old_or_new

  pub adds_steps : (runs : Meaning) (s : List ℕ) → slice_get S from ≡ Some s → IsEnding (runs s) e → AreSteps runs S R W → AreSteps runs T Q V
  adds_steps runs s at is are = record {
    lengths = adds_lengths are.lengths;
    once = adds_once are.once;
    each = adds_each runs s at is are.each;
    behind = adds_behind (slice_get_within S from s at) are.lengths are.behind;
  }

-- what is reached is listed
pub reaches_listed : (runs : Meaning) (start : List ℕ) (S : List (List ℕ)) (W : List Step) → slice_get S 0 ≡ Some start → ((i : ℕ) → Covers runs S W i)
    → (n : ℕ) (to : List ℕ) → Reaches runs start n to → Contains S to
reaches_listed runs start S W first covers zero to is = Contains_from_get S 0 to (first ∙ ap Some (sym is))
reaches_listed runs start S W first covers (suc n) to (before, e, on, is, same) =
    let k = get_from_Contains S before (reaches_listed runs start S W first covers n before on) in
    let listed = covers k.0 before e k.1 is in
    Contains_from_get S listed.0 to (listed.2 ∙ ap Some same)

-- what is listed is reached
pub listed_reaches : (runs : Meaning) (start : List ℕ) (S : List (List ℕ)) (R : List (Option ℕ)) (W : List Step) → slice_get S 0 ≡ Some start → AreSteps runs S R W
    → (most i : ℕ) (s : List ℕ) → i < most → slice_get S i ≡ Some s → (n : ℕ) × Reaches runs start n s
listed_reaches runs start S R W first are zero i s l at = absurd (omega arith)
listed_reaches runs start S R W first are (suc most) zero s l at = (0, same_Some s start (sym at ∙ first))
listed_reaches runs start S R W first are (suc most) (suc i) s l at =
    let by = are.behind (suc i) (omega arith) (slice_get_within S (suc i) s at) in
    let w = by.1 in
    let step : IsStep runs S w = All-contains (IsStep runs S) W w are.each (Contains_from_get W by.0 w by.3) in
    let before = listed_reaches runs start S R W first are most w.from step.0 (omega (arith, by.5)) step.2 in
    let same : step.1 ≡ s = same_Some step.1 s (sym step.3 ∙ ap (λ (k : ℕ). slice_get S k) by.4 ∙ at) in
    (suc before.0, (step.0, ending_by w step.1, before.1, step.4, same))
