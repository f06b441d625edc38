-- Lists that a loop goes through from the front: of states, and of endings.
use Rattle.std.proofs.Common.{◌≡◌, ℕ, ◌<◌, ◌≤◌, ◌+◌, List, [], ◌∷◌, ◌++◌, length, take, get_or, refl, ap, sym, ◌∙◌, subst, ⊎_elim, arith, map, Some, take_all, Option, inl, inr, Vec, Global, vec_len}
use Rattle.std.specs.Prelude.{Contains, slice_get, All}
use Rattle.std.specs.Option.{option_map}
use Rattle.std.proofs.lemmas.Bool.{cases_lt}
use Rattle.std.proofs.lemmas.Option.{slice_get-map, slice_get_read, slice_get_within, same_Some}
use Rattle.std.proofs.lemmas.List.{map-append, length-map}
use Rattle.std.proofs.lemmas.Grind.{take_at_read}
use Rattle.std.proofs.lemmas.List.Elements.{Contains-push_cases, All-contains, All-push, All-weaker}
use Rattle.boot_search.specs.declared.exploring.Way.{Way}
use Rattle.boot_search.specs.Reports.{step_of, reached_by_of, AreReached}
use Rattle.boot_search.specs.declared.exploring.Stored.{Stored}
use Rattle.boot_search.specs.declared.endings.Ending.{Ending}
use Rattle.boot_search.specs.Endings.{Ended, ending_view, IsEnding, AreAllEndings}
use Rattle.boot_search.specs.Reports.{Meaning, Step, bytes_of, AreSteps, Grows, Adds, IsListed, Covers}
use Rattle.boot_search.specs.Reports.{steps_of}
use Rattle.boot_search.proofs.Lists.{Contains_from_get}
use Rattle.boot_search.proofs.ReportLemmas.{grows_state, grows_listed, grows_covers, grows_on, adds_grows, adds_listed, adds_steps}

pub viewed : {A B : Type 0} (view : A → B) (xs : List A) (i : ℕ) (x : A) → i < length xs → x ≡ get_or xs i x → slice_get (map view xs) i ≡ Some (view x)
viewed view xs i x l e = slice_get-map view xs i ∙ ap (option_map view) (slice_get_read xs (length xs) i x refl l e)

pub viewed_more : {A B : Type 0} (view : A → B) (xs : List A) (i : ℕ) (x : A) → i < length xs → x ≡ get_or xs i x → map view (take (i + 1) xs) ≡ map view (take i xs) ++ view x ∷ []
viewed_more view xs i x l e =
    let parts = (take_at_read xs i x l).1 in
    ap (map view) parts ∙ map-append view (take i xs) (get_or xs i x ∷ []) ∙ ap (λ y. map view (take i xs) ++ view y ∷ []) (sym e)

-- one ending more of those that were found
module _ (runs : Meaning) {S₀ S T : List (List ℕ)} {R Q : List (Option ℕ)} {W₀ W V : List Step} (from : ℕ) (found : List Ending) (i : ℕ) (x : Ending) (s : List ℕ)
    (l : i < length found) (e : x ≡ get_or found i x) (at : slice_get S₀ from ≡ Some s) (grows : Grows S₀ W₀ S W) (adds : Adds S R W from (ending_view x) T Q V) where
  pub one_more_steps : All (IsEnding (runs s)) (map ending_view found) → AreSteps runs S R W → AreSteps runs T Q V
  one_more_steps all are =
      let is : IsEnding (runs s) (ending_view x) = All-contains (IsEnding (runs s)) (map ending_view found) (ending_view x) all (Contains_from_get (map ending_view found) i (ending_view x) (viewed ending_view found i x l e)) in
      adds_steps adds runs s (grows_state grows from s at) is are

  pub one_more_grows : Grows S₀ W₀ T V
  one_more_grows = grows_on grows (adds_grows adds)

  pub one_more_listed : All (IsListed S W from) (map ending_view (take i found)) → All (IsListed T V from) (map ending_view (take (i + 1) found))
  one_more_listed listed =
      subst (λ (t : List Ended). All (IsListed T V from) t) (sym (viewed_more ending_view found i x l e))
      (All-push (IsListed T V from) (map ending_view (take i found)) (ending_view x)
      (All-weaker (IsListed S W from) (IsListed T V from) (grows_listed (adds_grows adds) from) (map ending_view (take i found)) listed)
      (adds_listed adds))

pub all_listed : (runs : Meaning) (S : List (List ℕ)) (W : List Step) (from : ℕ) (s : List ℕ) (found : List Ending) (i : ℕ) → length found ≤ i
    → slice_get S from ≡ Some s → AreAllEndings (runs s) (map ending_view found) → All (IsListed S W from) (map ending_view (take i found)) → Covers runs S W from
all_listed runs S W from s found i l at all listed state e is_at is =
    let same : state ≡ s = same_Some state s (sym is_at ∙ at) in
    let every : All (IsListed S W from) (map ending_view found) = subst (λ (t : List Ending). All (IsListed S W from) (map ending_view t)) (take_all i found l) listed in
    All-contains (IsListed S W from) (map ending_view found) e every (all e (subst (λ (t : List ℕ). IsEnding (runs t) e) same is))

-- one state more that is covered
pub covers_more : (runs : Meaning) {S T : List (List ℕ)} {W V : List Step} (from : ℕ) → from < length S → Grows S W T V → ((i : ℕ) → i < from → Covers runs S W i) → Covers runs T V from
    → (i : ℕ) → i < from + 1 → Covers runs T V i
covers_more runs {S} {T} {W} {V} from within grows before here i l =
    elim (cases_lt i from) [
      | inl less ↦ grows_covers grows runs i (omega arith) (before i less)
      | inr more ↦ let same : from ≡ i = omega arith in subst (λ (k : ℕ). Covers runs T V k) same here
    ]

pub covers_all : (runs : Meaning) (S : List (List ℕ)) (W : List Step) (n : ℕ) → length S ≤ n → ((i : ℕ) → i < n → Covers runs S W i) → (i : ℕ) → Covers runs S W i
covers_all runs S W n long each i state e at is = each i (let l : i < length S = slice_get_within S i state at in omega arith) state e at is

pub stored_long : (v : Vec Stored Global) → length (map bytes_of v.items) ≡ vec_len v
stored_long v = length-map v.items bytes_of ∙ sym v.ok.0

-- the way that a state is reached by
pub came_by : (states : List Stored) (ways : List Step) (at : ℕ) (s : Stored) → at < length states → s ≡ get_or states at s → 0 < at
    → AreReached (length (map bytes_of states)) (map reached_by_of states) ways → (k : ℕ) × (w : Step) × (s.reached_by ≡ Some k) × (slice_get ways k ≡ Some w) × (w.to ≡ at) × (w.from < at)
came_by states ways at s within is behind reached =
    let long : length (map bytes_of states) ≡ length states = length-map states bytes_of in
    let by = reached at behind (omega arith) in
    let here : Some s.reached_by ≡ Some (Some by.0) = sym (viewed reached_by_of states at s within is) ∙ by.2 in
    (by.0, by.1, same_Some s.reached_by (Some by.0) here, by.3, by.4, by.5)

pub ways_long : (v : Vec Way Global) → length (map step_of v.items) ≡ vec_len v
ways_long v = length-map v.items step_of ∙ sym v.ok.0

pub way_is : (ways : List Way) (k : ℕ) (x : Way) (w : Step) → k < length ways → x ≡ get_or ways k x → slice_get (map step_of ways) k ≡ Some w → step_of x ≡ w
way_is ways k x w l e at = same_Some (step_of x) w (sym (viewed step_of ways k x l e) ∙ at)

pub steps_long : (ways : List Way) → length (steps_of ways) ≡ length ways
steps_long ways = length-map ways step_of
