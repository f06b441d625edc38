-- What is left of copies that are written back, and what is said of it.
use Rattle.std.proofs.Common.{◌≡◌, inl, inr, ⊎_elim, ℕ, ◌+◌, List, [], ◌∷◌, map, Option, Some, None, Result, Ok, Err, OnOk, ap, arith, refl, subst, sym, ◌∙◌}
use Rattle.devices.specs.Changes as changes
use Rattle.devices.specs.Changes.{AreApart, IsApart, Shows, WrittenBack}
use Rattle.devices.specs.declared.writing.Change.{Change}
use Rattle.envimg_core.specs.declared.choice.Choice.{Choice}
use Rattle.envimg_core.specs.declared.choice.Choice.TheVariants.{First, Second, Neither}
use Rattle.fw_files.specs.WrittenBack.{IsLeft, ShowsCopies, ShowsSecond, Step, in_order, step_of, steps_of}
use Rattle.fw_files.specs.declared.copies.ReadCopy.{ReadCopy}
use Rattle.fw_files.specs.declared.source.Source.{Source}

-- a copy that begins where it does in its own device
pub first_step : (change : Change) (start : ℕ) (read bytes given : List ℕ) → step_of change ≡ (0 + start, read, given) → given ≡ bytes → step_of change ≡ (start, read, bytes)
first_step change start read bytes given is same =
    let none : 0 + start ≡ start = omega arith in
    is ∙ ap (λ (b : List ℕ). (0 + start, read, b)) same ∙ ap (λ (n : ℕ). (n, read, bytes)) none

-- the place and the bytes of a copy that is written back
shows_step : (change : Change) (step : Step) (seen : List ℕ) → step_of change ≡ step → Shows seen change.at change.to_write.now → Shows seen step.0 step.2
shows_step change step seen is shows = subst (λ (s : Step). Shows seen s.0 s.2) is shows

-- one copy
pub one_shown : {T E : Type 0} (r : Result T E) (first : Change) (source : Source) (before : ℕ) (bytes : List ℕ) (second : Option (List ℕ)) (seen : List ℕ) →
    step_of first ≡ (source.first.start, source.first.bytes.items, bytes) → None ≡ second →
    OnOk r (AreApart (first ∷ []) → changes.AreWritten (first ∷ []) seen) → OnOk r (ShowsCopies seen source before bytes second)
one_shown (Err e) first source before bytes second seen is none shown = tt
one_shown (Ok x) first source before bytes second seen is none shown = record {
  first_copy = shows_step first _ seen is (shown (tt, tt)).0;
  second_copy = subst (ShowsSecond seen before source.second) none tt;
}

pub one_left : (last : Choice) (first : Change) (source : Source) (before : ℕ) (bytes : List ℕ) (second : Option (List ℕ)) (device left : List ℕ) →
    step_of first ≡ (source.first.start, source.first.bytes.items, bytes) → None ≡ second → WrittenBack (first ∷ []) device left → IsLeft last source before bytes second device left
one_left last first source before bytes second device left is none back =
    subst (λ s. IsLeft last source before bytes s device left) none
    (⊎_elim (λ same. inl same) (λ (found, one). inr (first ∷ [], ap (λ (s : Step). s ∷ []) is, found, one)) back)

-- both copies, in either order
both_shown : (first second : Change) (source : Source) (bytes : List ℕ) (before : ℕ) (read : ReadCopy) (others : List ℕ) (seen : List ℕ) →
    step_of first ≡ (source.first.start, source.first.bytes.items, bytes) → step_of second ≡ (before + read.start, read.bytes.items, others) →
    source.second ≡ Some read → Shows seen first.at first.to_write.now → Shows seen second.at second.to_write.now → ShowsCopies seen source before bytes (Some others)
both_shown first second source bytes before read others seen is is_second reads one other = record {
  first_copy = shows_step first _ seen is one;
  second_copy = subst (λ r. ShowsSecond seen before r (Some others)) (sym reads) (shows_step second _ seen is_second other);
}

pub second_first_shown : {T E : Type 0} (r : Result T E) (first second : Change) (source : Source) (bytes : List ℕ) (before : ℕ) (read : ReadCopy) (others : List ℕ) (seen : List ℕ) →
    step_of first ≡ (source.first.start, source.first.bytes.items, bytes) → step_of second ≡ (before + read.start, read.bytes.items, others) →
    source.second ≡ Some read → IsApart first second →
    OnOk r (AreApart (second ∷ first ∷ []) → changes.AreWritten (second ∷ first ∷ []) seen) → OnOk r (ShowsCopies seen source before bytes (Some others))
second_first_shown (Err e) first second source bytes before read others seen is is_second reads apart shown = tt
second_first_shown (Ok x) first second source bytes before read others seen is is_second reads apart shown =
    let written = shown ((⊎_elim (λ p. inr p) (λ q. inl q) apart, tt), (tt, tt)) in
    both_shown first second source bytes before read others seen is is_second reads written.1.0 written.0

pub first_second_shown : {T E : Type 0} (r : Result T E) (first second : Change) (source : Source) (bytes : List ℕ) (before : ℕ) (read : ReadCopy) (others : List ℕ) (seen : List ℕ) →
    step_of first ≡ (source.first.start, source.first.bytes.items, bytes) → step_of second ≡ (before + read.start, read.bytes.items, others) →
    source.second ≡ Some read → IsApart first second →
    OnOk r (AreApart (first ∷ second ∷ []) → changes.AreWritten (first ∷ second ∷ []) seen) → OnOk r (ShowsCopies seen source before bytes (Some others))
first_second_shown (Err e) first second source bytes before read others seen is is_second reads apart shown = tt
first_second_shown (Ok x) first second source bytes before read others seen is is_second reads apart shown =
    let written = shown ((apart, tt), (tt, tt)) in
    both_shown first second source bytes before read others seen is is_second reads written.0 written.1.0

-- the first before the second, but where the first is the last
pub not_first : (last : Choice) (first second : Step) → (last ≡ First → ⊥) → first ∷ second ∷ [] ≡ in_order last first second
not_first First first second not = absurd (not refl)
not_first Second first second not = refl
not_first Neither first second not = refl

-- what a crash leaves of both
pub both_left : (last : Choice) (in_turn : List Change) (first second : Change) (source : Source) (bytes : List ℕ) (before : ℕ) (read : ReadCopy) (others : List ℕ) (device left : List ℕ) →
    step_of first ≡ (source.first.start, source.first.bytes.items, bytes) → step_of second ≡ (before + read.start, read.bytes.items, others) →
    source.second ≡ Some read → map step_of in_turn ≡ in_order last (step_of first) (step_of second) → WrittenBack in_turn device left → IsLeft last source before bytes (Some others) device left
both_left last in_turn first second source bytes before read others device left is is_second reads turn back =
    ⊎_elim
    (λ same. inl same)
    (λ (found, one). inr (
      in_turn,
      turn ∙ ap (λ s. in_order last s (step_of second)) is ∙ ap (in_order last _) is_second
          ∙ ap (λ r. steps_of last (source.first.start, source.first.bytes.items, bytes) before r (Some others)) (sym reads),
      found,
      one,
    ))
    back
