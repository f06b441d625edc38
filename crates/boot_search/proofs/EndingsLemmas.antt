-- The search over the answers of one power-on, over plain lists.
use Rattle.std.proofs.Common.{◌≡◌, ◌⊎◌, ℕ, zero, suc, ◌<◌, ◌≤◌, ◌+◌, ◌-◌, List, [], ◌∷◌, ◌++◌, length, take, refl, ap, sym, ◌∙◌, subst, inl, inr, ⊎_elim, arith, append_assoc}
use Rattle.std.specs.Prelude.{All, Contains}
use Rattle.std.proofs.lemmas.Bool.{cases_lt}
use Rattle.std.proofs.lemmas.Option.{none-some, slice_get_within}
use Rattle.std.proofs.lemmas.List.Elements.{All-nil, All-cons, All-push, All-append, Contains-push, Contains-push_cases, Contains-append_left, Contains-append_right}
use Rattle.std.proofs.lemmas.List.{append-nil, take-append-le}
use Rattle.std.proofs.Math.Seq.{take-append_seam}
use Rattle.boot_search.specs.declared.board.End.{End}
use Rattle.boot_search.specs.Outcomes.{Given, Outcome, asks, ended}
use Rattle.boot_search.specs.Endings.{Ended, IsAnswer, Answered, IsEnding, AreAllEndings, answer_to, with_answers, Begins, Searching}
use Rattle.boot_search.proofs.Lists.{nothing_in, All-first, All-last, get_cases, get_seam}

-- Where the board asks, the answers go on.
goes_on : (run : List Given → Outcome) (front rest : List Given) (question : List ℕ) (n : ℕ) → run front ≡ asks question n → Answered run (front ++ rest)
    → (run (front ++ rest) ≡ asks question n) ⊎ ((a : ℕ) × (more : List Given) × (a < n) × (rest ≡ answer_to question a ∷ more))
goes_on run front [] question n e h = inl (ap run (append-nil front) ∙ e)
goes_on run front (g ∷ more) question n e h =
    let here : IsAnswer (run (take (length front) (front ++ g ∷ more))) g = h (length front) g (get_seam front g more) in
    let there : IsAnswer (run front) g = rw (take-append_seam front (g ∷ more)) at here in
    let is : IsAnswer (asks question n) g = subst (λ o. IsAnswer o g) e there in
    inr (g.choice, more, is.1, ap (λ (q : List ℕ). answer_to q g.choice ∷ more) is.0)

-- Where the board has ended, they do not.
stops : (run : List Given → Outcome) (front rest : List Given) (end : End) (by next : List ℕ) → run front ≡ ended end by next → Answered run (front ++ rest) → front ++ rest ≡ front
stops run front [] end by next e h = append-nil front
stops run front (g ∷ more) end by next e h =
    let here : IsAnswer (run (take (length front) (front ++ g ∷ more))) g = h (length front) g (get_seam front g more) in
    let there : IsAnswer (run front) g = rw (take-append_seam front (g ∷ more)) at here in
    absurd (subst (λ o. IsAnswer o g) e there)

asks_ended : (question : List ℕ) (n : ℕ) (end : End) (by next : List ℕ) → asks question n ≡ ended end by next → ⊥
asks_ended question n end by next e = cc

answered_more : (run : List Given → Outcome) (front : List Given) (question : List ℕ) (n a : ℕ) → run front ≡ asks question n → a < n → Answered run front
    → Answered run (front ++ answer_to question a ∷ [])
answered_more run front question n a e l h k g at =
    let mine : Given = answer_to question a in
    ⊎_elim
    (λ old.
    let before : take k (front ++ mine ∷ []) ≡ take k front = take-append-le k front (mine ∷ []) (let within : k < length front = slice_get_within front k g old in omega arith) in
    subst (λ (t : List Given). IsAnswer (run t) g) (sym before) (h k g old))
    (λ last.
    let asked : IsAnswer (run front) mine = subst (λ o. IsAnswer o mine) (sym e) (refl, l) in
    let seam : take k (front ++ mine ∷ []) ≡ front = ap (λ (m : ℕ). take m (front ++ mine ∷ [])) last.0 ∙ take-append_seam front (mine ∷ []) in
    subst (λ (x : Given). IsAnswer (run (take k (front ++ mine ∷ []))) x) last.1 (subst (λ (t : List Given). IsAnswer (run t) mine) (sym seam) asked))
    (get_cases front mine k g at)

with_answers_has : (front : List Given) (question : List ℕ) (n count a : ℕ) → a < n → n ≤ a + count → Contains (with_answers front question n count) (front ++ answer_to question a ∷ [])
with_answers_has front question n zero a l m = absurd (omega arith)
with_answers_has front question n (suc count) a l m =
    elim (cases_lt (a + count) n) [
      | inl less ↦
          let here : n - 1 - count ≡ a = omega arith in
          let last : Contains (with_answers front question n (suc count)) (front ++ answer_to question (n - 1 - count) ∷ []) =
          Contains-push (with_answers front question n count) (front ++ answer_to question (n - 1 - count) ∷ []) in
          subst (λ (m : ℕ). Contains (with_answers front question n (suc count)) (front ++ answer_to question m ∷ [])) here last
      | inr more ↦ Contains-append_left (with_answers front question n count) _ _ (with_answers_has front question n count a l more)
    ]

with_answers_all : (P : List Given → Type 0) (front : List Given) (question : List ℕ) (n count : ℕ) → count ≤ n → ((a : ℕ) → a < n → P (front ++ answer_to question a ∷ []))
    → All P (with_answers front question n count)
with_answers_all P front question n zero l h = All-nil P
with_answers_all P front question n (suc count) l h =
    All-push P (with_answers front question n count) (front ++ answer_to question (n - 1 - count) ∷ []) (with_answers_all P front question n count (omega arith) h) (h (n - 1 - count) (omega arith))

-- The answers that begin with those that were just run begin with one of those that are pending now.
begins_more : (run : List Given → Outcome) (pending : List (List Given)) (front rest : List Given) (question : List ℕ) (n : ℕ) (x : Ended) → run front ≡ asks question n
    → x.answers ≡ front ++ rest → IsEnding run x → Begins (pending ++ with_answers front question n n) x.answers
begins_more run pending front rest question n x e same is =
    elim (goes_on run front rest question n e (subst (Answered run) same is.0)) [
      | inl stuck ↦ absurd (asks_ended question n x.end x.by x.next (sym stuck ∙ ap run (sym same) ∙ is.1))
      | inr on ↦ (
        front ++ answer_to question on.0 ∷ [],
        on.1,
        Contains-append_right pending (with_answers front question n n) (front ++ answer_to question on.0 ∷ []) (with_answers_has front question n n on.0 on.2 (omega arith)),
        same ∙ ap (λ t. front ++ t) on.3 ∙ sym (append_assoc front (answer_to question on.0 ∷ []) on.1),
      )
    ]

make : List Given → End → List ℕ → List ℕ → Ended
make answers end by next = record { answers = answers; end = end; by = by; next = next }

same_ending : (run : List Given → Outcome) (x : Ended) (front : List Given) (end : End) (by next : List ℕ) → run front ≡ ended end by next
    → x.answers ≡ front → run x.answers ≡ ended x.end x.by x.next → make front end by next ≡ x
unfolding make
same_ending run x front end by next e same is =
    let both : ended end by next ≡ ended x.end x.by x.next = sym e ∙ ap run (sym same) ∙ is in
    let same_end : end ≡ x.end = cc in
    let same_by : by ≡ x.by = cc in
    let same_next : next ≡ x.next = cc in
    ap (λ a. make a end by next) (sym same) ∙ ap (λ b. make x.answers b by next) same_end
    ∙ ap (λ t. make x.answers x.end t next) same_by ∙ ap (λ t. make x.answers x.end x.by t) same_next

pub at_start : (run : List Given → Outcome) → Searching run ([] ∷ []) []
at_start run = record {
  begun = All-cons (Answered run) [] [] (λ k g at. absurd (none-some g at)) (All-nil (Answered run));
  sound = All-nil (IsEnding run);
  rest = λ e is. inr ([], e.answers, Contains-push [] [], refl);
}

pub at_end : (run : List Given → Outcome) (found : List Ended) → Searching run [] found → AreAllEndings run found
at_end run found s e is = ⊎_elim (λ c. c) (λ b. absurd (nothing_in b.0 b.2)) (s.rest e is)

pub asked : (run : List Given → Outcome) (pending : List (List Given)) (front : List Given) (found : List Ended) (question : List ℕ) (n : ℕ) → run front ≡ asks question n
    → Searching run (pending ++ front ∷ []) found → Searching run (pending ++ with_answers front question n n) found
asked run pending front found question n e s = record {
  begun = All-append (Answered run) pending _ (All-first (Answered run) pending (front ∷ []) s.begun)
      (with_answers_all (Answered run) front question n n (omega arith) (λ a l. answered_more run front question n a e l (All-last (Answered run) pending front s.begun)));
  sound = s.sound;
  rest = λ x is. ⊎_elim inl (λ b. inr (
      ⊎_elim
      (λ old. (b.0, b.1, Contains-append_left pending _ b.0 old, b.3))
      (λ same. begins_more run pending front b.1 question n x e (b.3 ∙ ap (λ t. t ++ b.1) (sym same)) is)
      (Contains-push_cases pending front b.0 b.2))) (s.rest x is);
}

pub ended_so : (run : List Given → Outcome) (pending : List (List Given)) (front : List Given) (found : List Ended) (end : End) (by next : List ℕ) → run front ≡ ended end by next
    → Searching run (pending ++ front ∷ []) found → Searching run pending (found ++ (let x : Ended = record { answers = front; end = end; by = by; next = next } in x) ∷ [])
unfolding make
ended_so run pending front found end by next e s = record {
  begun = All-first (Answered run) pending (front ∷ []) s.begun;
  sound = All-push (IsEnding run) found (make front end by next) s.sound (All-last (Answered run) pending front s.begun, e);
  rest = λ x is. ⊎_elim (λ c. inl (Contains-append_left found _ x c)) (λ b.
      ⊎_elim
      (λ old. inr (b.0, b.1, old, b.3))
      (λ same.
      let begins : x.answers ≡ front ++ b.1 = b.3 ∙ ap (λ t. t ++ b.1) (sym same) in
      let all : x.answers ≡ front = begins ∙ stops run front b.1 end by next e (subst (Answered run) begins is.0) in
      inl (subst (Contains (found ++ make front end by next ∷ [])) (same_ending run x front end by next e all is.1) (Contains-push found (make front end by next))))
      (Contains-push_cases pending front b.0 b.2)) (s.rest x is);
}
