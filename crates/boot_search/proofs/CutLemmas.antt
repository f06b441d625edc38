-- Power cuts against questions at the saves.
use Rattle.std.proofs.Common.{◌+◌, ◌≡◌, ◌⊎◌, ℕ, zero, suc, ◌<◌, ◌≤◌, List, [], ◌∷◌, length, take, drop, get_or, refl, ap, sym, ◌∙◌, subst, inl, inr, ⊎_elim, arith, take_all, Some}
use Rattle.std.specs.Prelude.{Contains, slice_get}
use Rattle.std.proofs.lemmas.Bool.{cases_lt}
use Rattle.std.proofs.lemmas.List.{get_or_default, length-take-le, take-take, take-append-drop}
use Rattle.std.proofs.lemmas.List.Elements.{Contains-get_or}
use Rattle.std.proofs.lemmas.Option.{none-some, same_Some, slice_get_within}
use Rattle.std.proofs.Math.ListN.{get_or-eq_default}
use Rattle.boot_search.specs.declared.board.End.{End}
use Rattle.boot_search.specs.declared.board.End.TheVariants.{Resets}
use Rattle.boot_search.specs.Outcomes.{Given, Outcome, asks, ended}
use Rattle.boot_search.specs.Endings.{Ended, IsAnswer, Answered, IsEnding, answer_to}
use Rattle.boot_search.specs.Cuts.{Play, stops, asks_for, saves, MayLeave, by_choice, by_save, play, CutsAreAsked, CutsReach, EndsAtOnce}
use Rattle.boot_search.proofs.Lists.{get_front}

not_ended : {P : Type 0} (question : List ℕ) (n : ℕ) (end : End) (by next : List ℕ) → asks question n ≡ ended end by next → P
not_ended question n end by next e = absurd (let no : ⊥ = cc in no)

same_left : (end how : End) (by why stored left : List ℕ) → ended end by stored ≡ ended how why left → left ≡ stored
same_left end how by why stored left e = cc

-- one answer before the answers to the rest
answered_first : (run rest : List Given → Outcome) (question : List ℕ) (n a : ℕ) (answers : List Given) → run [] ≡ asks question n → a < n
    → ((xs : List Given) → run (answer_to question a ∷ xs) ≡ rest xs) → Answered rest answers → Answered run (answer_to question a ∷ answers)
answered_first run rest question n a answers e l same h zero g at =
    let is : answer_to question a ≡ g = same_Some (answer_to question a) g at in
    subst (λ (x : Given). IsAnswer (run []) x) is (subst (λ o. IsAnswer o (answer_to question a)) (sym e) (refl, l))
answered_first run rest question n a answers e l same h (suc k) g at = subst (λ o. IsAnswer o g) (sym (same (take k answers))) (h k g at)

nothing_answered : (run : List Given → Outcome) → Answered run []
nothing_answered run k g at = absurd (none-some g at)

ahead : Given → Ended → Ended
ahead g e = record { answers = g ∷ e.answers; end = e.end; by = e.by; next = e.next }

Leaves : Play → List ℕ → List ℕ → Type 0
Leaves p stored left = (e : Ended) × IsEnding (play p stored) e × (e.next ≡ left)

leaves_first : (question : List ℕ) (p q : Play) (stored left : List ℕ) → Leaves p stored left → Leaves (asks_for question p q) stored left
unfolding Leaves ahead
leaves_first question p q stored left (e, (h, is), same) =
    (ahead (answer_to question 0) e, (answered_first (play (asks_for question p q) stored) (play p stored) question 2 0 e.answers refl (omega arith) (λ xs. refl) h, is), same)

leaves_second : (question : List ℕ) (p q : Play) (stored left : List ℕ) → Leaves q stored left → Leaves (asks_for question p q) stored left
unfolding Leaves ahead
leaves_second question p q stored left (e, (h, is), same) =
    (ahead (answer_to question 1) e, (answered_first (play (asks_for question p q) stored) (play q stored) question 2 1 e.answers refl (omega arith) (λ xs. refl) h, is), same)

leaves_saved : (question text : List ℕ) (torn : List (List ℕ)) (p : Play) (stored left : List ℕ) → Leaves p text left → Leaves (saves question text torn p) stored left
unfolding Leaves ahead
leaves_saved question text torn p stored left (e, (h, is), same) = (
  ahead (answer_to question 0) e,
  (answered_first (play (saves question text torn p) stored) (play p text) question (2 + length torn) 0 e.answers refl (omega arith) (λ xs. refl) h, is),
  same,
)

-- a cut at a save, before it and half way
leaves_cut : (question text : List ℕ) (torn : List (List ℕ)) (p : Play) (stored left : List ℕ) (n : ℕ) → n < 2 + length torn
    → ((xs : List Given) → play (saves question text torn p) stored (answer_to question n ∷ xs) ≡ ended Resets question left) → Leaves (saves question text torn p) stored left
unfolding Leaves
leaves_cut question text torn p stored left n l same = (
  record { answers = answer_to question n ∷ []; end = Resets; by = question; next = left },
  (
    answered_first (play (saves question text torn p) stored) (λ xs. ended Resets question left) question (2 + length torn) n [] refl l same
        (nothing_answered (λ xs. ended Resets question left)),
    same [],
  ),
  refl,
)

-- some answers leave what is stored now
leaves_now : (p : Play) (stored : List ℕ) → Leaves p stored stored
unfolding Leaves
leaves_now (stops end by) stored = (record { answers = []; end = end; by = by; next = stored }, (nothing_answered (play (stops end by) stored), refl), refl)
leaves_now (asks_for question p q) stored = leaves_first question p q stored stored (leaves_now p stored)
leaves_now (saves question text torn p) stored = leaves_cut question text torn p stored stored 1 (omega arith) (λ xs. refl)

leaves : (p : Play) (stored left : List ℕ) → MayLeave p stored left → Leaves p stored left
leaves (stops end by) stored left e = subst (Leaves (stops end by) stored) (sym e) (leaves_now (stops end by) stored)
leaves (asks_for question p q) stored left (inl e) = subst (Leaves (asks_for question p q) stored) (sym e) (leaves_now (asks_for question p q) stored)
leaves (asks_for question p q) stored left (inr (inl m)) = leaves_first question p q stored left (leaves p stored left m)
leaves (asks_for question p q) stored left (inr (inr m)) = leaves_second question p q stored left (leaves q stored left m)
leaves (saves question text torn p) stored left (inl e) = subst (Leaves (saves question text torn p) stored) (sym e) (leaves_now (saves question text torn p) stored)
leaves (saves question text torn p) stored left (inr (inl e)) = leaves_saved question text torn p stored left (subst (Leaves p text) (sym e) (leaves_now p text))
leaves (saves question text torn p) stored left (inr (inr (inl (k, l, e)))) =
    let same : get_or torn k stored ≡ left = get_or_default torn k stored left l ∙ e in
    leaves_cut question text torn p stored left (suc (suc k)) (omega (arith, l)) (λ xs. ap (ended Resets question) same)
leaves (saves question text torn p) stored left (inr (inr (inr m))) = leaves_saved question text torn p stored left (leaves p text left m)

one_choice : (n : ℕ) (first second o : Outcome) → by_choice n first second ≡ o → (first ≡ o) ⊎ (second ≡ o)
one_choice zero first second o e = inl e
one_choice (suc n) first second o e = inr e

one_save : (n : ℕ) (done : Outcome) (question stored : List ℕ) (torn : List (List ℕ)) (end : End) (by left : List ℕ) → by_save n done question stored torn ≡ ended end by left
    → (done ≡ ended end by left) ⊎ ((left ≡ stored) ⊎ Contains torn left)
one_save zero done question stored torn end by left e = inl e
one_save (suc zero) done question stored torn end by left e = inr (inl (same_left Resets end question by stored left e))
one_save (suc (suc k)) done question stored torn end by left e =
    let same : left ≡ get_or torn k stored = same_left Resets end question by (get_or torn k stored) left e in
    elim (cases_lt k (length torn)) [
      | inl less ↦ inr (inr (subst (Contains torn) (sym same) (Contains-get_or torn k stored less)))
      | inr more ↦ inr (inl (same ∙ get_or-eq_default torn stored more))
    ]

may_leave : (p : Play) (stored left : List ℕ) (answers : List Given) (end : End) (by : List ℕ) → play p stored answers ≡ ended end by left → MayLeave p stored left
may_leave (stops how why) stored left answers end by e = same_left how end why by stored left e
may_leave (asks_for question p q) stored left [] end by e = not_ended question 2 end by left e
may_leave (asks_for question p q) stored left (g ∷ answers) end by e =
    ⊎_elim
    (λ first. inr (inl (may_leave p stored left answers end by first)))
    (λ second. inr (inr (may_leave q stored left answers end by second)))
    (one_choice g.choice (play p stored answers) (play q stored answers) (ended end by left) e)
may_leave (saves question text torn p) stored left [] end by e = not_ended question (2 + length torn) end by left e
may_leave (saves question text torn p) stored left (g ∷ answers) end by e =
    ⊎_elim
    (λ done. inr (inr (inr (may_leave p text left answers end by done))))
    (λ cut. ⊎_elim (λ old. inl old) (λ half. inr (inr (inl half))) cut)
    (one_save g.choice (play p text answers) question stored torn end by left e)

pub cuts_are_asked : CutsAreAsked
unfolding Leaves
cuts_are_asked p stored left = (leaves p stored left, λ (e, is, same). subst (MayLeave p stored) same (may_leave p stored e.next e.answers e.end e.by is.1))

pub cuts_reach : CutsReach
unfolding Leaves
cuts_reach plays start zero to = (λ e. e, λ e. e)
cuts_reach plays start (suc n) to =
    let before = cuts_reach plays start n in (
      λ (mid, on, m). (let l = leaves (plays mid) mid to m in (mid, l.0, (before mid).0 on, l.1, l.2)),
      λ (mid, e, on, is, same). (mid, (before mid).1 on, subst (MayLeave (plays mid) mid) same (may_leave (plays mid) mid e.next e.answers e.end e.by is.1)),
    )

-- either the board asked at each of the first answers, or it has ended before
Early : (List Given → Outcome) → List Given → ℕ → Type 0
Early run answers most = (k : ℕ) × (k ≤ most) × (e : Ended) × IsEnding run e × (e.answers ≡ take k answers)

AnsweredBelow : (List Given → Outcome) → List Given → ℕ → Type 0
AnsweredBelow run answers most = (k : ℕ) (g : Given) → k < most → slice_get answers k ≡ Some g → IsAnswer (run (take k answers)) g

shape : (o : Outcome) → ((question : List ℕ) × (n : ℕ) × (o ≡ asks question n)) ⊎ ((how : End) × (by : List ℕ) × (left : List ℕ) × (o ≡ ended how by left))
shape (asks question n) = inl (question, n, refl)
shape (ended how by left) = inr (how, by, left, refl)

answered_front : (run : List Given → Outcome) (answers : List Given) (most : ℕ) → most ≤ length answers → AnsweredBelow run answers most → Answered run (take most answers)
unfolding AnsweredBelow
answered_front run answers most l before k g at =
    let less : k < most = (let long : length (take most answers) ≡ most = length-take-le most answers l in let in_front = slice_get_within (take most answers) k g at in omega (arith, long, in_front)) in
    let whole : slice_get answers k ≡ Some g = ap (λ (t : List Given). slice_get t k) (sym (take-append-drop most answers)) ∙ get_front (take most answers) (drop most answers) k g at in
    let front : take k (take most answers) ≡ take k answers = take-take k most answers (omega (arith, less)) in
    subst (λ (t : List Given). IsAnswer (run t) g) (sym front) (before k g less whole)

-- an end with the first answers
ended_with : (run : List Given → Outcome) (answers : List Given) (most : ℕ) (how : End) (by left : List ℕ) → most ≤ length answers → AnsweredBelow run answers most
    → run (take most answers) ≡ ended how by left → (e : Ended) × IsEnding run e × (e.answers ≡ take most answers)
ended_with run answers most how by left l before is =
    (record { answers = take most answers; end = how; by = by; next = left }, (answered_front run answers most l before, is), refl)

asked_or_ended : (run : List Given → Outcome) (answers : List Given)
    → ((k n : ℕ) (g : Given) (question : List ℕ) → slice_get answers k ≡ Some g → run (take k answers) ≡ asks question n → IsAnswer (asks question n) g)
    → (most : ℕ) → most ≤ length answers → AnsweredBelow run answers most ⊎ Early run answers most
unfolding Early AnsweredBelow
asked_or_ended run answers valid zero l = inl (λ k g below at. absurd (omega (arith, below)))
asked_or_ended run answers valid (suc most) l =
    elim (asked_or_ended run answers valid most (omega arith)) [
      | inr early ↦ inr (early.0, omega (arith, early.1), early.2, early.3, early.4)
      | inl before ↦ elim (shape (run (take most answers))) [
        | inl asked ↦ inl (λ k g below at. elim (cases_lt k most) [
          | inl less ↦ before k g less at
          | inr more ↦
              let here : k ≡ most = omega arith in
              let at_most : slice_get answers most ≡ Some g = subst (λ (m : ℕ). slice_get answers m ≡ Some g) here at in
              subst (λ (m : ℕ). IsAnswer (run (take m answers)) g) (sym here)
              (subst (λ o. IsAnswer o g) (sym asked.2) (valid most asked.1 g asked.0 at_most asked.2))
        ])
        | inr over ↦
            let e = ended_with run answers most over.0 over.1 over.2 (omega arith) before over.3 in
            inr (most, omega arith, e.0, e.1, e.2)
      ]
    ]

pub ends_at_once : EndsAtOnce
unfolding Early AnsweredBelow
ends_at_once run answers end by next e valid =
    elim (asked_or_ended run answers valid (length answers) (omega arith)) [
      | inr early ↦ early
      | inl before ↦
          let whole = ended_with run answers (length answers) end by next (omega arith) before (ap run (take_all (length answers) answers (omega arith)) ∙ e) in
          (length answers, omega arith, whole.0, whole.1, whole.2)
    ]
