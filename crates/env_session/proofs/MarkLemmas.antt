-- Spans, and the marks that they stand for.
use Rattle.std.proofs.Common.{◌≡◌, ℕ, zero, suc, ◌<◌, ◌≤◌, List, [], ◌∷◌, ◌++◌, length, take, drop, get_or, Option, IsTrue, Result, Ok, Err, OnOk, OnErr, is_some, unwrap_or, not, refl, sym, ap, subst, ◌∙◌, arith}
use Rattle.std.proofs.Math.ListN.{set}
use Rattle.std.specs.List.{AllByRecursion}
use Rattle.std.specs.FinMap as env
use Rattle.envimg_core.specs.Environment.{Environment, used}
use Rattle.envimg_core.specs.Geometry.{Shape, room_of}
use Rattle.envimg_core.specs.Pieces.{but_last}
use Rattle.envimg_core.specs.declared.choice.Choice.{Choice}
use Rattle.envvars_core.specs.Refusals.{after}
use Rattle.envvars_core.specs.Olds.{OldValues, kept_by, restored, goes_in_place}
use Rattle.envvars_core.specs.Variables.{Contents}
use Rattle.envvars_core.proofs.RestoreLemmas.{restored-written, restored-empty}
use Rattle.env_session.specs.Session.{bytes_of, State, Mark, Held, IsSound, new_mark, on_last, written, marked, last_changed_names, last_begun, MayRefuse}
use Rattle.env_session.specs.SpanSteps.{on_nth, olds_at, back_at, keeping, beginning, emptied, last_undone, last_removed}
use Rattle.env_session.specs.Spans.{second_back, back, mark_of, begin_of, marks_of, IsEmptySpan, now_of, held_of, IsHeld, kept_names}
use Rattle.env_session.specs.NameSets.{changed_names_after, comes_back_in_place}
use Rattle.env_session.proofs.NameSetLemmas.{names-empty, names-kept_by, names-len, same_in_place}
use Rattle.env_session.specs.declared.marks.Span.{Span}
use Rattle.env_session.specs.declared.session.Stored.{Stored}

-- one of a list, and the list with that one changed
pub record IsNth {A : Type 0} (xs : List A) (k : ℕ) (x : A) : Type 0 where
  pub is : (d : A) → get_or xs k d ≡ x
  pub upto : take (suc k) xs ≡ take k xs ++ x ∷ []
  pub from : drop k xs ≡ x ∷ drop (suc k) xs
  pub set_is : (f : A → A) → set xs k (f x) ≡ on_nth f k xs
  pub set_upto : (f : A → A) → take (suc k) (on_nth f k xs) ≡ take k xs ++ f x ∷ []
  pub set_from : (f : A → A) → drop k (on_nth f k xs) ≡ f x ∷ drop (suc k) xs
  pub set_front : (f : A → A) → take k (on_nth f k xs) ≡ take k xs
  pub set_rest : (f : A → A) → drop (suc k) (on_nth f k xs) ≡ drop (suc k) xs

pub length-on_nth : {A : Type 0} (f : A → A) (k : ℕ) (xs : List A) → length (on_nth f k xs) ≡ length xs
length-on_nth f k [] = refl
length-on_nth f zero (x ∷ xs) = refl
length-on_nth f (suc k) (x ∷ xs) = ap suc (length-on_nth f k xs)

pub nth_of : {A : Type 0} (xs : List A) (k : ℕ) → k < length xs → (x : A) × IsNth xs k x
nth_of [] k h = absurd (omega arith)
nth_of (x ∷ xs) zero h = (x, record { is = λ d. refl; upto = refl; from = refl; set_is = λ f. refl; set_upto = λ f. refl; set_from = λ f. refl; set_front = λ f. refl; set_rest = λ f. refl })
nth_of (x ∷ xs) (suc k) h =
    let n = nth_of xs k (omega arith) in (
      n.0,
      record {
        is = n.1.is;
        upto = ap (λ ys. x ∷ ys) n.1.upto;
        from = n.1.from;
        set_is = λ f. ap (λ ys. x ∷ ys) (n.1.set_is f);
        set_upto = λ f. ap (λ ys. x ∷ ys) (n.1.set_upto f);
        set_from = n.1.set_from;
        set_front = λ f. ap (λ ys. x ∷ ys) (n.1.set_front f);
        set_rest = n.1.set_rest;
      },
    )

-- one span
pub record IsSpan (spans : List Span) (k : ℕ) (s : Span) : Type 0 where
  pub nth : IsNth spans k s
  pub back_is : (now : State) → back_at spans k now ≡ back s now
  pub olds_is : olds_at spans k ≡ s.olds

back_at-nth : (spans : List Span) (k : ℕ) (s : Span) (now : State) → drop k spans ≡ s ∷ drop (suc k) spans → back_at spans k now ≡ back s now
back_at-nth [] zero s now e = cc
back_at-nth [] (suc k) s now e = cc
back_at-nth (x ∷ xs) zero s now e = let is : x ≡ s = cc in ap (λ y. back y now) is
back_at-nth (x ∷ xs) (suc k) s now e = back_at-nth xs k s now e

olds_at-nth : (spans : List Span) (k : ℕ) (s : Span) → drop k spans ≡ s ∷ drop (suc k) spans → olds_at spans k ≡ s.olds
olds_at-nth [] zero s e = cc
olds_at-nth [] (suc k) s e = cc
olds_at-nth (x ∷ xs) zero s e = let is : x ≡ s = cc in ap (λ (y : Span). y.olds) is
olds_at-nth (x ∷ xs) (suc k) s e = olds_at-nth xs k s e

pub span_of : (spans : List Span) (k : ℕ) → k < length spans → (s : Span) × IsSpan spans k s
span_of spans k h =
    let n = nth_of spans k h in
    (n.0, record { nth = n.1; back_is = λ now. back_at-nth spans k n.0 now n.1.from; olds_is = olds_at-nth spans k n.0 n.1.from })

-- the end of a list of marks
pub on_last-end : (f : Mark → Mark) (ms : List Mark) (m : Mark) → on_last f (ms ++ m ∷ []) ≡ ms ++ f m ∷ []
on_last-end f [] m = refl
on_last-end f (x ∷ []) m = refl
on_last-end f (x ∷ y ∷ ms) m = ap (λ ys. x ∷ ys) (on_last-end f (y ∷ ms) m)

pub last_changed_names-end : (ms : List Mark) (m : Mark) → last_changed_names (ms ++ m ∷ []) ≡ m.touched
last_changed_names-end [] m = refl
last_changed_names-end (x ∷ []) m = refl
last_changed_names-end (x ∷ y ∷ ms) m = last_changed_names-end (y ∷ ms) m

pub last_begun-end : (ms : List Mark) (m : Mark) (now : State) → last_begun (ms ++ m ∷ []) now ≡ m.begun
last_begun-end [] m now = refl
last_begun-end (x ∷ []) m now = refl
last_begun-end (x ∷ y ∷ ms) m now = last_begun-end (y ∷ ms) m now

pub but_last-end : (ms : List Mark) (m : Mark) → but_last (ms ++ m ∷ []) ≡ ms
but_last-end [] m = refl
but_last-end (x ∷ []) m = refl
but_last-end (x ∷ y ∷ ms) m = ap (λ ys. x ∷ ys) (but_last-end (y ∷ ms) m)

pub all-front : {A : Type 0} (P : A → Type 0) (xs ys : List A) → AllByRecursion P (xs ++ ys) → AllByRecursion P xs
all-front P [] ys h = tt
all-front P (x ∷ xs) ys h = (h.0, all-front P xs ys h.1)

pub all-back : {A : Type 0} (P : A → Type 0) (xs ys : List A) → AllByRecursion P (xs ++ ys) → AllByRecursion P ys
all-back P [] ys h = h
all-back P (x ∷ xs) ys h = all-back P xs ys h.1

pub all-both : {A : Type 0} (P : A → Type 0) (xs ys : List A) → AllByRecursion P xs → AllByRecursion P ys → AllByRecursion P (xs ++ ys)
all-both P [] ys h k = k
all-both P (x ∷ xs) ys h k = (h.0, all-both P xs ys h.1 k)

-- the marks of spans one after another
begin_of-append : (xs ys : List Span) (now : State) → begin_of (xs ++ ys) now ≡ begin_of xs (begin_of ys now)
begin_of-append [] ys now = refl
begin_of-append (x ∷ xs) ys now = ap (back x) (begin_of-append xs ys now)

marks_of-append : (xs ys : List Span) (now : State) → marks_of (xs ++ ys) now ≡ marks_of xs (begin_of ys now) ++ marks_of ys now
marks_of-append [] ys now = refl
marks_of-append (x ∷ xs) ys now = λ i. mark_of x (begin_of-append xs ys now i) ∷ marks_of-append xs ys now i

pub marks-end : (xs : List Span) (s : Span) (now : State) → marks_of (xs ++ s ∷ []) now ≡ marks_of xs (back s now) ++ mark_of s now ∷ []
marks-end xs s now = marks_of-append xs (s ∷ []) now

pub length-marks_of : (ss : List Span) (now : State) → length (marks_of ss now) ≡ length ss
length-marks_of [] now = refl
length-marks_of (s ∷ ss) now = ap suc (length-marks_of ss now)

length-take_suc : {A : Type 0} (k : ℕ) (xs : List A) → k < length xs → length (take (suc k) xs) ≡ suc k
length-take_suc k [] h = absurd (omega arith)
length-take_suc zero (x ∷ xs) h = refl
length-take_suc (suc k) (x ∷ xs) h = ap suc (length-take_suc k xs (omega arith))

pub marks_count : (spans : List Span) (k : ℕ) (now : State) → k < length spans → length (marks_of (take (suc k) spans) now) ≡ suc k
marks_count spans k now h = length-marks_of (take (suc k) spans) now ∙ length-take_suc k spans h

-- the marks when the last span is changed
pub marks_upto : (spans : List Span) (k : ℕ) (s : Span) (now : State) → IsNth spans k s → marks_of (take (suc k) spans) now ≡ marks_of (take k spans) (back s now) ++ mark_of s now ∷ []
marks_upto spans k s now n = ap (λ ss. marks_of ss now) n.upto ∙ marks-end (take k spans) s now

pub marks_set : (f : Span → Span) (spans : List Span) (k : ℕ) (s : Span) (now : State) → IsNth spans k s → marks_of (take (suc k) (on_nth f k spans)) now ≡ marks_of (take k spans) (back (f s) now) ++ mark_of (f s) now ∷ []
marks_set f spans k s now n = ap (λ ss. marks_of ss now) (n.set_upto f) ∙ marks-end (take k spans) (f s) now

-- a write
abbrev pub kept_in : Environment → List ℕ → Option (List ℕ) → Mark → Mark
kept_in m n new mark = record mark { touched = changed_names_after m n new mark.touched }

back-keeping : (s : Span) (now : State) (n : List ℕ) (new : Option (List ℕ)) → back (keeping now.env n new s) (record now { env = after now.env n new }) ≡ back s now
back-keeping s now n new = λ i. record { env = restored-written now.env s.olds n new i; first = unwrap_or (bytes_of s.first) now.first; second = second_back (bytes_of s.second) now.second; current = s.current }

pub marks_written : (spans : List Span) (k : ℕ) (s : Span) (now : State) (n : List ℕ) (new : Option (List ℕ)) → IsNth spans k s → marks_of (take (suc k) (on_nth (keeping now.env n new) k spans)) (record now { env = after now.env n new }) ≡ on_last (kept_in now.env n new) (marks_of (take (suc k) spans) now)
marks_written spans k s now n new is =
    let later : State = record now { env = after now.env n new } in
    marks_set (keeping now.env n new) spans k s later is
    ∙ (λ i. marks_of (take k spans) (back-keeping s now n new i) ++ record { begun = back-keeping s now n new i; touched = names-kept_by now.env n new s.olds i; first_saved = is_some s.first; second_saved = is_some s.second } ∷ [])
    ∙ sym (on_last-end (kept_in now.env n new) (marks_of (take k spans) (back s now)) (mark_of s now))
    ∙ ap (on_last (kept_in now.env n new)) (sym (marks_upto spans k s now is))

pub held_written : (stored : Stored) (defaults vars vars' : Contents) (current : Choice) (spans spans' : List Span) (k : ℕ) (n : List ℕ) (new : Option (List ℕ)) → k < length spans → vars' ≡ record vars { env = after vars.env n new } → spans' ≡ on_nth (keeping vars.env n new) k spans → held_of stored defaults vars' current spans' k ≡ written (held_of stored defaults vars current spans k) n new
held_written stored defaults vars vars' current spans spans' k n new h e e' =
    let s = span_of spans k h in
    let now = now_of stored vars current in
    (λ i. held_of stored defaults (e i) current (e' i) k)
    ∙ (λ i. record { shape = stored.geometry; defaults = defaults; now = record now { env = after now.env n new }; marks = marks_written spans k s.0 now n new s.1.nth i })

pub all-on_last : (P : Mark → Type 0) (f : Mark → Mark) (ms : List Mark) → ((m : Mark) → P m → P (f m)) → AllByRecursion P ms → AllByRecursion P (on_last f ms)
all-on_last P f [] h a = a
all-on_last P f (m ∷ []) h a = (h m a.0, tt)
all-on_last P f (m ∷ x ∷ ms) h a = (a.0, all-on_last P f (x ∷ ms) h a.1)

abbrev pub SoundMark : Shape → Mark → Type 0
SoundMark shape m = IsSound shape m.begun

pub is_held_written : (stored : Stored) (vars vars' : Contents) (current : Choice) (spans spans' : List Span) (k : ℕ) (n : List ℕ) (new : Option (List ℕ)) → IsHeld stored vars current spans k → used vars'.env ≤ vars'.room → vars' ≡ record vars { env = after vars.env n new } → spans' ≡ on_nth (keeping vars.env n new) k spans → IsHeld stored vars' current spans' k
is_held_written stored vars vars' current spans spans' k n new held fits e e' =
    let within : k < length spans = omega (arith, held.few, held.many) in
    let s = span_of spans k within in
    let now = now_of stored vars current in
    let room : vars'.room ≡ room_of stored.geometry = ap (λ (v : Contents). v.room) e ∙ held.room in
    let marks : marks_of (take (suc k) spans') (now_of stored vars' current) ≡ on_last (kept_in vars.env n new) (marks_of (take (suc k) spans) now) =
    (λ i. marks_of (take (suc k) (e' i)) (now_of stored (e i) current)) ∙ marks_written spans k s.0 now n new s.1.nth in
    record {
      room = room;
      few = held.few;
      many = ap length e' ∙ length-on_nth (keeping vars.env n new) k spans ∙ held.many;
      sound = record { fits = subst (λ (r : ℕ). used vars'.env ≤ r) room fits; first = held.sound.first; second = held.sound.second };
      begun = subst (AllByRecursion (SoundMark stored.geometry)) (sym marks) (all-on_last (SoundMark stored.geometry) (kept_in vars.env n new) (marks_of (take (suc k) spans) now) (λ m p. p) held.begun);
      empty = subst (AllByRecursion IsEmptySpan) (sym (ap (drop (suc k)) e' ∙ s.1.nth.set_rest (keeping vars.env n new))) held.empty;
    }

pub is_held_write : {E : Type 0} (r : Result (Unit {0}) E) (stored : Stored) (vars vars' : Contents) (current : Choice) (spans spans' : List Span) (k : ℕ) (n : List ℕ) (new : Option (List ℕ)) → IsHeld stored vars current spans k → used vars'.env ≤ vars'.room → OnOk r (vars' ≡ record vars { env = after vars.env n new }) → OnOk r (spans' ≡ on_nth (keeping vars.env n new) k spans) → OnErr r (vars' ≡ vars) → OnErr r (spans' ≡ spans) → IsHeld stored vars' current spans' k
is_held_write (Ok u) stored vars vars' current spans spans' k n new held fits a b c d = is_held_written stored vars vars' current spans spans' k n new held fits a b
is_held_write (Err e) stored vars vars' current spans spans' k n new held fits a b c d = subst (λ (v : Contents). IsHeld stored v current spans' k) (sym c) (subst (λ (ss : List Span). IsHeld stored vars current ss k) (sym d) held)

pub held_write : {E : Type 0} (r : Result (Unit {0}) E) (stored : Stored) (defaults vars vars' : Contents) (current : Choice) (spans spans' : List Span) (k : ℕ) (n : List ℕ) (new : Option (List ℕ)) (h : Held) → k < length spans → OnOk r (vars' ≡ record vars { env = after vars.env n new }) → OnOk r (spans' ≡ on_nth (keeping vars.env n new) k spans) → held_of stored defaults vars current spans k ≡ h → OnOk r (held_of stored defaults vars' current spans' k ≡ written h n new)
held_write (Ok u) stored defaults vars vars' current spans spans' k n new h within a b is = held_written stored defaults vars vars' current spans spans' k n new within a b ∙ ap (λ x. written x n new) is
held_write (Err e) stored defaults vars vars' current spans spans' k n new h within a b is = tt

pub unwritten : {E : Type 0} (r : Result (Unit {0}) E) (stored : Stored) (defaults vars vars' : Contents) (current : Choice) (spans spans' : List Span) (k : ℕ) (h : Held) → OnErr r (vars' ≡ vars) → OnErr r (spans' ≡ spans) → held_of stored defaults vars current spans k ≡ h → OnErr r (held_of stored defaults vars' current spans' k ≡ h)
unwritten (Ok u) stored defaults vars vars' current spans spans' k h a b is = tt
unwritten (Err e) stored defaults vars vars' current spans spans' k h a b is =
    ap (λ (v : Contents). held_of stored defaults v current spans' k) a ∙ ap (λ (ss : List Span). held_of stored defaults vars current ss k) b ∙ is

-- a mark
pub back-empty : (s : Span) (now : State) → IsEmptySpan s → back (beginning now.current s) now ≡ now
back-empty s now b = λ i. record { env = (ap (restored now.env) b.olds ∙ restored-empty now.env) i; first = ap (λ o. unwrap_or (bytes_of o) now.first) b.first i; second = ap (λ o. second_back (bytes_of o) now.second) b.second i; current = now.current }

pub mark-empty : (s : Span) (now : State) → IsEmptySpan s → mark_of (beginning now.current s) now ≡ new_mark now
mark-empty s now b = λ i. record { begun = back-empty s now b i; touched = (ap kept_names b.olds ∙ names-empty) i; first_saved = ap is_some b.first i; second_saved = ap is_some b.second i }

empty_at : (spans : List Span) (k : ℕ) (s : Span) → IsNth spans k s → AllByRecursion IsEmptySpan (drop k spans) → IsEmptySpan s
empty_at spans k s n all = (subst (AllByRecursion IsEmptySpan) n.from all).0

pub marks_marked : (spans : List Span) (k : ℕ) (s : Span) (now : State) → IsNth spans (suc k) s → IsEmptySpan s → marks_of (take (suc (suc k)) (on_nth (beginning now.current) (suc k) spans)) now ≡ marks_of (take (suc k) spans) now ++ new_mark now ∷ []
marks_marked spans k s now n b =
    marks_set (beginning now.current) spans (suc k) s now n ∙ (λ i. marks_of (take (suc k) spans) (back-empty s now b i) ++ mark-empty s now b i ∷ [])

pub held_marked : (stored : Stored) (defaults vars : Contents) (current : Choice) (spans spans' : List Span) (k : ℕ) → IsHeld stored vars current spans k → suc k < length spans → spans' ≡ on_nth (beginning current) (suc k) spans → held_of stored defaults vars current spans' (suc k) ≡ marked (held_of stored defaults vars current spans k)
held_marked stored defaults vars current spans spans' k held within e =
    let s = span_of spans (suc k) within in
    let now = now_of stored vars current in
    let b = empty_at spans (suc k) s.0 s.1.nth held.empty in
    ap (λ ss. held_of stored defaults vars current ss (suc k)) e
    ∙ (λ i. record { shape = stored.geometry; defaults = defaults; now = now; marks = marks_marked spans k s.0 now s.1.nth b i })

pub is_held_marked : (stored : Stored) (vars : Contents) (current : Choice) (spans spans' : List Span) (k : ℕ) → IsHeld stored vars current spans k → suc k < length spans → spans' ≡ on_nth (beginning current) (suc k) spans → IsHeld stored vars current spans' (suc k)
is_held_marked stored vars current spans spans' k held within e =
    let s = span_of spans (suc k) within in
    let now = now_of stored vars current in
    let b = empty_at spans (suc k) s.0 s.1.nth held.empty in
    let marks : marks_of (take (suc (suc k)) spans') now ≡ marks_of (take (suc k) spans) now ++ new_mark now ∷ [] = ap (λ ss. marks_of (take (suc (suc k)) ss) now) e ∙ marks_marked spans k s.0 now s.1.nth b in
    record {
      room = held.room;
      few = omega (arith, within, held.many);
      many = ap length e ∙ length-on_nth (beginning current) (suc k) spans ∙ held.many;
      sound = held.sound;
      begun = subst (AllByRecursion (SoundMark stored.geometry)) (sym marks) (all-both (SoundMark stored.geometry) (marks_of (take (suc k) spans) now) (new_mark now ∷ []) held.begun (held.sound, tt));
      empty = subst (AllByRecursion IsEmptySpan) (sym (ap (drop (suc (suc k))) e ∙ s.1.nth.set_rest (beginning current))) (subst (AllByRecursion IsEmptySpan) s.1.nth.from held.empty).1;
    }

-- an undo of the last span
pub last_sound : (stored : Stored) (vars : Contents) (current : Choice) (spans : List Span) (k : ℕ) (s : Span) → IsHeld stored vars current spans k → IsNth spans k s → IsSound stored.geometry (back s (now_of stored vars current))
last_sound stored vars current spans k s held n =
    let now = now_of stored vars current in
    (all-back (SoundMark stored.geometry) (marks_of (take k spans) (back s now)) (mark_of s now ∷ []) (subst (AllByRecursion (SoundMark stored.geometry)) (marks_upto spans k s now n) held.begun)).0

pub undo_fits : (stored : Stored) (vars : Contents) (current : Choice) (spans : List Span) (k : ℕ) → IsHeld stored vars current spans k → used (restored vars.env (olds_at spans k)) ≤ vars.room
undo_fits stored vars current spans k held =
    let s = span_of spans k (omega (arith, held.few, held.many)) in
    let sound = last_sound stored vars current spans k s.0 held s.1.nth in
    subst (λ (r : ℕ). used (restored vars.env (olds_at spans k)) ≤ r) (sym held.room) (subst (λ (o : OldValues). used (restored vars.env o) ≤ room_of stored.geometry) (sym s.1.olds_is) sound.fits)

pub may_refuse : (stored : Stored) (defaults vars : Contents) (current : Choice) (spans : List Span) (k : ℕ) (h : Held) → k < length spans → held_of stored defaults vars current spans k ≡ h → IsTrue (not (goes_in_place vars.env (olds_at spans k))) → MayRefuse h
may_refuse stored defaults vars current spans k h within is refused =
    let s = span_of spans k within in
    let now = now_of stored vars current in
    let marks = marks_upto spans k s.0 now s.1.nth in
    let begun : (last_begun (marks_of (take (suc k) spans) now) now).env ≡ restored vars.env s.0.olds = ap (λ ms. (last_begun ms now).env) marks ∙ ap (λ (x : State). x.env) (last_begun-end (marks_of (take k spans) (back s.0 now)) (mark_of s.0 now) now) in
    let changed : last_changed_names (marks_of (take (suc k) spans) now) ≡ kept_names s.0.olds = ap last_changed_names marks ∙ last_changed_names-end (marks_of (take k spans) (back s.0 now)) (mark_of s.0 now) in
    let same : goes_in_place vars.env (olds_at spans k) ≡ comes_back_in_place (last_begun (marks_of (take (suc k) spans) now) now).env vars.env (last_changed_names (marks_of (take (suc k) spans) now)) =
    ap (goes_in_place vars.env) s.1.olds_is ∙ same_in_place vars.env s.0.olds ∙ (λ i. comes_back_in_place (sym begun i) vars.env (sym changed i)) in
    subst MayRefuse is (subst (λ b. IsTrue (not b)) same refused)

marks_emptied : (spans : List Span) (k : ℕ) (s : Span) (now : State) → IsNth spans k s → marks_of (take (suc k) (on_nth emptied k spans)) (back s now) ≡ on_last (λ m. new_mark m.begun) (marks_of (take (suc k) spans) now)
marks_emptied spans k s now n =
    let b : IsEmptySpan (emptied s) = record { olds = refl; first = refl; second = refl } in
    marks_set emptied spans k s (back s now) n
    ∙ (λ i. marks_of (take k spans) (back-empty (emptied s) (back s now) b i) ++ mark-empty (emptied s) (back s now) b i ∷ [])
    ∙ sym (on_last-end (λ m. new_mark m.begun) (marks_of (take k spans) (back s now)) (mark_of s now))
    ∙ ap (on_last (λ m. new_mark m.begun)) (sym (marks_upto spans k s now n))

begun_last : (spans : List Span) (k : ℕ) (s : Span) (now : State) → IsNth spans k s → back s now ≡ last_begun (marks_of (take (suc k) spans) now) now
begun_last spans k s now n = sym (last_begun-end (marks_of (take k spans) (back s now)) (mark_of s now) now) ∙ ap (λ ms. last_begun ms now) (sym (marks_upto spans k s now n))

pub held_undone : (stored stored' : Stored) (defaults vars vars' : Contents) (current current' : Choice) (spans spans' : List Span) (k : ℕ) → k < length spans → stored'.geometry ≡ stored.geometry → now_of stored' vars' current' ≡ back_at spans k (now_of stored vars current) → spans' ≡ on_nth emptied k spans → held_of stored' defaults vars' current' spans' k ≡ last_undone (held_of stored defaults vars current spans k)
held_undone stored stored' defaults vars vars' current current' spans spans' k within shape is e =
    let s = span_of spans k within in
    let now = now_of stored vars current in
    let now_is : now_of stored' vars' current' ≡ back s.0 now = is ∙ s.1.back_is now in
    (λ i. record { shape = shape i; defaults = defaults; now = now_is i; marks = marks_of (take (suc k) (e i)) (now_is i) })
    ∙ (λ i. record { shape = stored.geometry; defaults = defaults; now = begun_last spans k s.0 now s.1.nth i; marks = marks_emptied spans k s.0 now s.1.nth i })

pub held_removed : (stored stored' : Stored) (defaults vars vars' : Contents) (current current' : Choice) (spans spans' : List Span) (k : ℕ) → suc k < length spans → stored'.geometry ≡ stored.geometry → now_of stored' vars' current' ≡ back_at spans (suc k) (now_of stored vars current) → spans' ≡ on_nth emptied (suc k) spans → held_of stored' defaults vars' current' spans' k ≡ last_removed (held_of stored defaults vars current spans (suc k))
held_removed stored stored' defaults vars vars' current current' spans spans' k within shape is e =
    let s = span_of spans (suc k) within in
    let now = now_of stored vars current in
    let now_is : now_of stored' vars' current' ≡ back s.0 now = is ∙ s.1.back_is now in
    (λ i. record { shape = shape i; defaults = defaults; now = now_is i; marks = marks_of (take (suc k) (e i)) (now_is i) })
    ∙ (λ i. record { shape = stored.geometry; defaults = defaults; now = begun_last spans (suc k) s.0 now s.1.nth i; marks = marks_of (s.1.nth.set_front emptied i) (back s.0 now) })
    ∙ (λ i. record { shape = stored.geometry; defaults = defaults; now = last_begun (marks_of (take (suc (suc k)) spans) now) now; marks = (sym (but_last-end (marks_of (take (suc k) spans) (back s.0 now)) (mark_of s.0 now)) ∙ ap but_last (sym (marks_upto spans (suc k) s.0 now s.1.nth))) i })

sound_now : (stored stored' : Stored) (vars vars' : Contents) (current current' : Choice) (spans : List Span) (k : ℕ) (s : Span) → IsHeld stored vars current spans k → IsSpan spans k s → stored'.geometry ≡ stored.geometry → now_of stored' vars' current' ≡ back_at spans k (now_of stored vars current) → IsSound stored'.geometry (now_of stored' vars' current')
sound_now stored stored' vars vars' current current' spans k s held n shape is =
    subst (λ (g : Shape). IsSound g (now_of stored' vars' current')) (sym shape) (subst (IsSound stored.geometry) (sym (is ∙ n.back_is (now_of stored vars current))) (last_sound stored vars current spans k s held n.nth))

pub is_held_undone : (stored stored' : Stored) (vars vars' : Contents) (current current' : Choice) (spans spans' : List Span) (k : ℕ) → IsHeld stored vars current spans k → vars'.room ≡ vars.room → stored'.geometry ≡ stored.geometry → now_of stored' vars' current' ≡ back_at spans k (now_of stored vars current) → spans' ≡ on_nth emptied k spans → IsHeld stored' vars' current' spans' k
is_held_undone stored stored' vars vars' current current' spans spans' k held room shape is e =
    let s = span_of spans k (omega (arith, held.few, held.many)) in
    let now = now_of stored vars current in
    let now_is : now_of stored' vars' current' ≡ back s.0 now = is ∙ s.1.back_is now in
    let marks : marks_of (take (suc k) spans') (now_of stored' vars' current') ≡ on_last (λ m. new_mark m.begun) (marks_of (take (suc k) spans) now) = (λ i. marks_of (take (suc k) (e i)) (now_is i)) ∙ marks_emptied spans k s.0 now s.1.nth in
    record {
      room = room ∙ held.room ∙ ap room_of (sym shape);
      few = held.few;
      many = ap length e ∙ length-on_nth emptied k spans ∙ held.many;
      sound = sound_now stored stored' vars vars' current current' spans k s.0 held s.1 shape is;
      begun = subst (λ (g : Shape). AllByRecursion (SoundMark g) (marks_of (take (suc k) spans') (now_of stored' vars' current'))) (sym shape) (subst (AllByRecursion (SoundMark stored.geometry)) (sym marks) (all-on_last (SoundMark stored.geometry) (λ m. new_mark m.begun) (marks_of (take (suc k) spans) now) (λ m p. p) held.begun));
      empty = subst (AllByRecursion IsEmptySpan) (sym (ap (drop (suc k)) e ∙ s.1.nth.set_rest emptied)) held.empty;
    }

pub is_held_removed : (stored stored' : Stored) (vars vars' : Contents) (current current' : Choice) (spans spans' : List Span) (k : ℕ) → IsHeld stored vars current spans (suc k) → vars'.room ≡ vars.room → stored'.geometry ≡ stored.geometry → now_of stored' vars' current' ≡ back_at spans (suc k) (now_of stored vars current) → spans' ≡ on_nth emptied (suc k) spans → IsHeld stored' vars' current' spans' k
is_held_removed stored stored' vars vars' current current' spans spans' k held room shape is e =
    let s = span_of spans (suc k) (omega (arith, held.few, held.many)) in
    let now = now_of stored vars current in
    let now_is : now_of stored' vars' current' ≡ back s.0 now = is ∙ s.1.back_is now in
    let b : IsEmptySpan (emptied s.0) = record { olds = refl; first = refl; second = refl } in
    let marks : marks_of (take (suc k) spans') (now_of stored' vars' current') ≡ marks_of (take (suc k) spans) (back s.0 now) = (λ i. marks_of (take (suc k) (e i)) (now_is i)) ∙ ap (λ ss. marks_of ss (back s.0 now)) (s.1.nth.set_front emptied) in
    let front = all-front (SoundMark stored.geometry) (marks_of (take (suc k) spans) (back s.0 now)) (mark_of s.0 now ∷ []) (subst (AllByRecursion (SoundMark stored.geometry)) (marks_upto spans (suc k) s.0 now s.1.nth) held.begun) in
    record {
      room = room ∙ held.room ∙ ap room_of (sym shape);
      few = omega (arith, held.few);
      many = ap length e ∙ length-on_nth emptied (suc k) spans ∙ held.many;
      sound = sound_now stored stored' vars vars' current current' spans (suc k) s.0 held s.1 shape is;
      begun = subst (λ (g : Shape). AllByRecursion (SoundMark g) (marks_of (take (suc k) spans') (now_of stored' vars' current'))) (sym shape) (subst (AllByRecursion (SoundMark stored.geometry)) (sym marks) front);
      empty = subst (AllByRecursion IsEmptySpan) (sym (ap (drop (suc k)) e ∙ s.1.nth.set_from emptied)) (b, held.empty);
    }

pub changed_names_is : (spans : List Span) (k : ℕ) (s : Span) (now : State) → IsNth spans k s → env.len s.olds ≡ env.len (last_changed_names (marks_of (take (suc k) spans) now))
changed_names_is spans k s now n = names-len s.olds ∙ ap env.len (sym (last_changed_names-end (marks_of (take k spans) (back s now)) (mark_of s now)) ∙ ap last_changed_names (sym (marks_upto spans k s now n)))

-- what one span's change makes of the spans
pub kept_ok : {E : Type 0} (r : Result (Unit {0}) E) (spans : List Span) (k : ℕ) (d : Span) (olds : OldValues) (m : Environment) (n : List ℕ) (new : Option (List ℕ)) → k < length spans → OnOk r (olds ≡ kept_by m n new (get_or spans k d).olds) → OnOk r (set spans k (record (get_or spans k d) { olds = olds }) ≡ on_nth (keeping m n new) k spans)
kept_ok (Ok u) spans k d olds m n new within e =
    let s = nth_of spans k within in
    (λ i. set spans k (record (get_or spans k d) { olds = e i })) ∙ ap (λ (x : Span). set spans k (keeping m n new x)) (s.1.is d) ∙ s.1.set_is (keeping m n new)
kept_ok (Err e) spans k d olds m n new within h = tt

pub emptied_ok : {E : Type 0} (r : Result (Unit {0}) E) (spans : List Span) (k : ℕ) (d span : Span) → k < length spans → OnOk r (span ≡ emptied (get_or spans k d)) → OnOk r (set spans k span ≡ on_nth emptied k spans)
emptied_ok (Ok u) spans k d span within e =
    let s = nth_of spans k within in
    ap (set spans k) e ∙ ap (λ (x : Span). set spans k (emptied x)) (s.1.is d) ∙ s.1.set_is emptied
emptied_ok (Err e) spans k d span within h = tt

pub back_ok : {E : Type 0} (r : Result (Unit {0}) E) (spans : List Span) (k : ℕ) (d : Span) (now now' : State) → k < length spans → OnOk r (now' ≡ back (get_or spans k d) now) → OnOk r (now' ≡ back_at spans k now)
back_ok (Ok u) spans k d now now' within e = let s = span_of spans k within in e ∙ ap (λ (x : Span). back x now) (s.1.nth.is d) ∙ sym (s.1.back_is now)
back_ok (Err e) spans k d now now' within h = tt

pub olds_here : (spans : List Span) (k : ℕ) (d : Span) → k < length spans → olds_at spans k ≡ (get_or spans k d).olds
olds_here spans k d within = let s = span_of spans k within in s.1.olds_is ∙ ap (λ (x : Span). x.olds) (sym (s.1.nth.is d))

pub is_held_undo : {E : Type 0} (r : Result (Unit {0}) E) (stored stored' : Stored) (vars vars' : Contents) (current current' : Choice) (spans spans' : List Span) (k : ℕ) → IsHeld stored vars current spans k → vars'.room ≡ vars.room → stored'.geometry ≡ stored.geometry → OnOk r (now_of stored' vars' current' ≡ back_at spans k (now_of stored vars current)) → OnOk r (spans' ≡ on_nth emptied k spans) → OnErr r ((vars' ≡ vars) × (stored' ≡ stored) × (current' ≡ current) × (spans' ≡ spans)) → IsHeld stored' vars' current' spans' k
is_held_undo (Ok u) stored stored' vars vars' current current' spans spans' k held room shape a b c = is_held_undone stored stored' vars vars' current current' spans spans' k held room shape a b
is_held_undo (Err e) stored stored' vars vars' current current' spans spans' k held room shape a b c =
    subst (λ (v : Contents). IsHeld stored' v current' spans' k) (sym c.0)
    (subst (λ (x : Stored). IsHeld x vars current' spans' k) (sym c.1)
    (subst (λ (x : Choice). IsHeld stored vars x spans' k) (sym c.2)
    (subst (λ (ss : List Span). IsHeld stored vars current ss k) (sym c.3) held)))

pub held_undo : {E : Type 0} (r : Result (Unit {0}) E) (stored stored' : Stored) (defaults vars vars' : Contents) (current current' : Choice) (spans spans' : List Span) (k : ℕ) (h : Held) → k < length spans → stored'.geometry ≡ stored.geometry → OnOk r (now_of stored' vars' current' ≡ back_at spans k (now_of stored vars current)) → OnOk r (spans' ≡ on_nth emptied k spans) → held_of stored defaults vars current spans k ≡ h → OnOk r (held_of stored' defaults vars' current' spans' k ≡ last_undone h)
held_undo (Ok u) stored stored' defaults vars vars' current current' spans spans' k h within shape a b is = held_undone stored stored' defaults vars vars' current current' spans spans' k within shape a b ∙ ap last_undone is
held_undo (Err e) stored stored' defaults vars vars' current current' spans spans' k h within shape a b is = tt
