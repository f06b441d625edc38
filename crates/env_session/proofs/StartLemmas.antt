-- A session that begins.
use Rattle.std.proofs.Common.{◌≡◌, ℕ, zero, suc, ◌+◌, ◌<◌, ◌≤◌, ◌==◌, ◌&&◌, Bool, true, false, List, [], ◌∷◌, ◌++◌, length, take, drop, get_or, Option, Some, None, IsTrue, refl, sym, ap, subst, ◌∙◌, eqb, arith}
use Rattle.std.proofs.lemmas.Bool.{false≢true}
use Rattle.std.specs.List.{AllByRecursion}
use Rattle.envimg_core.proofs.Facts.{left_true, right_true}
use Rattle.envimg_core.specs.Environment.{used}
use Rattle.envimg_core.specs.Geometry.{room_of}
use Rattle.envimg_core.specs.declared.geometry.Layout.{Layout}
use Rattle.envimg_core.specs.declared.geometry.Layout.TheVariants.{Single, Redundant}
use Rattle.envimg_core.specs.declared.choice.Choice.{Choice}
use Rattle.envvars_core.specs.Variables.{Contents}
use Rattle.env_session.specs.Session.{most_marks, bytes_of, State, IsSound, IsSecond, new_mark, has_second, has_lengths, opening_choice, opening_env, opened}
use Rattle.env_session.specs.SpanSteps.{IsNewSpan, beginning, on_nth}
use Rattle.env_session.specs.Spans.{mark_of, marks_of, IsEmptySpan, now_of, held_of, IsHeld}
use Rattle.env_session.specs.declared.marks.Span.{Span}
use Rattle.env_session.specs.declared.session.Stored.{Stored}
use Rattle.env_session.proofs.MarkLemmas.{nth_of, marks_upto, mark-empty, SoundMark}

eqb-is : (m n : ℕ) → (m == n) ≡ true → m ≡ n
eqb-is m n e = Rattle.std.proofs.Common.eqb-true m n e

second_from : (layout : Layout) (size : ℕ) (second : Option (List ℕ)) → has_second layout size second ≡ true → IsSecond layout size second
second_from Single size None e = refl
second_from Single size (Some copy) e = absurd (false≢true e)
second_from Redundant size None e = absurd (false≢true e)
second_from Redundant size (Some copy) e = eqb-is (length copy) size e

pub sound_from : (stored : Stored) (vars : Contents) (current : Choice) → has_lengths stored.geometry stored.first.items (bytes_of stored.second) ≡ true → used vars.env ≤ room_of stored.geometry → IsSound stored.geometry (now_of stored vars current)
sound_from stored vars current e fits = record {
  fits = fits;
  first = eqb-is (length stored.first.items) stored.geometry.size (left_true (length stored.first.items == stored.geometry.size) (has_second stored.geometry.layout stored.geometry.size (bytes_of stored.second)) e);
  second = second_from stored.geometry.layout stored.geometry.size (bytes_of stored.second) (right_true (length stored.first.items == stored.geometry.size) (has_second stored.geometry.layout stored.geometry.size (bytes_of stored.second)) e);
}

pub all_from : {A : Type 0} (P : A → Type 0) (xs : List A) → ((i : ℕ) (d : A) → i < length xs → P (get_or xs i d)) → AllByRecursion P xs
all_from P [] h = tt
all_from P (x ∷ xs) h = (h 0 x (omega arith), all_from P xs (λ i d lt. h (suc i) d (omega (arith, lt))))

all_rest : {A : Type 0} (P : A → Type 0) (xs : List A) → AllByRecursion P xs → AllByRecursion P (drop 1 xs)
all_rest P [] h = h
all_rest P (x ∷ xs) h = h.1

fresh_mark : (s : Span) (now : State) → IsNewSpan now.current s → mark_of s now ≡ new_mark now
fresh_mark s now f = (λ i. mark_of (record s { current = f.current_is i }) now) ∙ mark-empty s now f.empty

pub one_mark : (spans : List Span) (now : State) → 0 < length spans → ((d : Span) → IsNewSpan now.current (get_or spans 0 d)) → marks_of (take 1 spans) now ≡ new_mark now ∷ []
one_mark spans now some h =
    let n = nth_of spans 0 some in
    let fresh : IsNewSpan now.current n.0 = subst (IsNewSpan now.current) (n.1.is n.0) (h n.0) in
    marks_upto spans 0 n.0 now n.1 ∙ ap (λ m. m ∷ []) (fresh_mark n.0 now fresh)

pub is_held_opened : (stored : Stored) (vars : Contents) (current : Choice) (spans : List Span) → vars.room ≡ room_of stored.geometry → length spans ≡ most_marks + 1 → IsSound stored.geometry (now_of stored vars current) → ((d : Span) → IsNewSpan current (get_or spans 0 d)) → AllByRecursion IsEmptySpan spans → IsHeld stored vars current spans 0
is_held_opened stored vars current spans room many sound h empty = record {
  room = room;
  few = omega arith;
  many = many;
  sound = sound;
  begun = subst (AllByRecursion (SoundMark stored.geometry)) (sym (one_mark spans (now_of stored vars current) (omega (arith, many)) h)) (sound, tt);
  empty = all_rest IsEmptySpan spans empty;
}

pub held_opened : (stored : Stored) (defaults vars : Contents) (current : Choice) (spans : List Span) → length spans ≡ most_marks + 1 → ((d : Span) → IsNewSpan current (get_or spans 0 d)) → current ≡ opening_choice stored.geometry stored.first.items (bytes_of stored.second) → vars ≡ record { env = opening_env stored.geometry stored.first.items (bytes_of stored.second) defaults.env current; room = room_of stored.geometry } → held_of stored defaults vars current spans 0 ≡ opened stored.geometry stored.first.items (bytes_of stored.second) defaults
held_opened stored defaults vars current spans many h is e =
    let now = now_of stored vars current in
    (λ i. record { shape = stored.geometry; defaults = defaults; now = now; marks = one_mark spans now (omega (arith, many)) h i })
    ∙ (λ i. let later : State = record { env = (ap (λ (v : Contents). v.env) e ∙ ap (opening_env stored.geometry stored.first.items (bytes_of stored.second) defaults.env) is) i; first = stored.first.items; second = bytes_of stored.second; current = is i } in record { shape = stored.geometry; defaults = defaults; now = later; marks = new_mark later ∷ [] })

-- the first span begins
pub first_begun : (current : Choice) (spans spans' : List Span) → spans' ≡ on_nth (beginning current) 0 spans → 0 < length spans → AllByRecursion IsEmptySpan spans → (d : Span) → IsNewSpan current (get_or spans' 0 d)
first_begun current [] spans' e some all d = absurd (omega arith)
first_begun current (s ∷ ss) spans' e some all d = subst (λ (xs : List Span). IsNewSpan current (get_or xs 0 d)) (sym e) (record { empty = record { olds = all.0.olds; first = all.0.first; second = all.0.second }; current_is = refl })

pub all_begun : (current : Choice) (spans spans' : List Span) → spans' ≡ on_nth (beginning current) 0 spans → AllByRecursion IsEmptySpan spans → AllByRecursion IsEmptySpan spans'
all_begun current [] spans' e all = subst (AllByRecursion IsEmptySpan) (sym e) tt
all_begun current (s ∷ ss) spans' e all = subst (AllByRecursion IsEmptySpan) (sym e) (record { olds = all.0.olds; first = all.0.first; second = all.0.second }, all.1)
