-- What a torn copy opens.
use Rattle.std.proofs.Common.{◌≡◌, ◌≢◌, ◌⊎◌, inl, inr, ⊎_elim, ℕ, List, [], ◌∷◌, length, take, drop, Option, option_map, Bool, true, false, if◌then◌else◌, ◌==◌, ◌&&◌, nat_lt, refl, sym, ◌∙◌, ap}
use Rattle.devices.specs.declared.writing.Change.{Change}
use Rattle.devices.specs.Changes.{Shows}
use Rattle.devices.specs.Laws.{IsOneTorn}
use Rattle.envimg_core.specs.Bytes.{last_flag}
use Rattle.envimg_core.specs.Environment.{Environment}
use Rattle.envimg_core.specs.Geometry.{Shape, area_of}
use Rattle.envimg_core.specs.Pieces.{entries_of, vars_of}
use Rattle.envimg_core.specs.State.{state_of, choice_of, choice_by_flags}
use Rattle.envimg_core.specs.declared.state.CopyState.{CopyState}
use Rattle.envimg_core.specs.declared.state.CopyState.TheVariants.{Good, BadLength, BadCrc, Unterminated}
use Rattle.envimg_core.specs.declared.choice.Choice.{Choice}
use Rattle.envimg_core.specs.declared.choice.Choice.TheVariants.{First, Second, Neither}
use Rattle.torn_copies.specs.Copies.{choice_in, bytes_of_choice, opened, IsGood, Passes, copy_at}
use Rattle.torn_copies.specs.Laws.{NoneByChance}

-- the choice where the second copy isn't good
first_alone : CopyState → Choice
first_alone (Good flag) = First
first_alone BadLength = Neither
first_alone BadCrc = Neither
first_alone Unterminated = Neither

-- where the first isn't
second_alone : CopyState → Choice
second_alone (Good flag) = Second
second_alone BadLength = Neither
second_alone BadCrc = Neither
second_alone Unterminated = Neither

picked : (one two three : Bool) → let choice = if one then Second else if two then First else if three then Second else First in (choice ≡ First) ⊎ (choice ≡ Second)
picked true two three = inr refl
picked false true three = inl refl
picked false false true = inr refl
picked false false false = inl refl

by_flags : (first second : ℕ) → (choice_by_flags first second ≡ First) ⊎ (choice_by_flags first second ≡ Second)
by_flags first second = picked (first == last_flag && second == 0) (first == 0 && second == last_flag) (nat_lt first second)

bad_second : (a t : CopyState) → (choice_of a t ≡ first_alone a) ⊎ IsGood t
unfolding first_alone
bad_second a (Good flag) = inr tt
bad_second (Good flag) BadLength = inl refl
bad_second (Good flag) BadCrc = inl refl
bad_second (Good flag) Unterminated = inl refl
bad_second BadLength BadLength = inl refl
bad_second BadLength BadCrc = inl refl
bad_second BadLength Unterminated = inl refl
bad_second BadCrc BadLength = inl refl
bad_second BadCrc BadCrc = inl refl
bad_second BadCrc Unterminated = inl refl
bad_second Unterminated BadLength = inl refl
bad_second Unterminated BadCrc = inl refl
bad_second Unterminated Unterminated = inl refl

bad_first : (b t : CopyState) → (choice_of t b ≡ second_alone b) ⊎ IsGood t
unfolding second_alone
bad_first b (Good flag) = inr tt
bad_first (Good flag) BadLength = inl refl
bad_first (Good flag) BadCrc = inl refl
bad_first (Good flag) Unterminated = inl refl
bad_first BadLength BadLength = inl refl
bad_first BadLength BadCrc = inl refl
bad_first BadLength Unterminated = inl refl
bad_first BadCrc BadLength = inl refl
bad_first BadCrc BadCrc = inl refl
bad_first BadCrc Unterminated = inl refl
bad_first Unterminated BadLength = inl refl
bad_first Unterminated BadCrc = inl refl
bad_first Unterminated Unterminated = inl refl

not_second : (a b : CopyState) → choice_of a b ≢ Second → choice_of a b ≡ first_alone a
unfolding first_alone
not_second (Good one) (Good other) not = ⊎_elim (λ is. is) (λ is. absurd (not is)) (by_flags one other)
not_second BadLength (Good other) not = absurd (not refl)
not_second BadCrc (Good other) not = absurd (not refl)
not_second Unterminated (Good other) not = absurd (not refl)
not_second a BadLength not = ⊎_elim (λ is. is) (λ good. absurd good) (bad_second a BadLength)
not_second a BadCrc not = ⊎_elim (λ is. is) (λ good. absurd good) (bad_second a BadCrc)
not_second a Unterminated not = ⊎_elim (λ is. is) (λ good. absurd good) (bad_second a Unterminated)

not_first : (a b : CopyState) → choice_of a b ≢ First → choice_of a b ≡ second_alone b
unfolding second_alone
not_first (Good one) (Good other) not = ⊎_elim (λ is. absurd (not is)) (λ is. is) (by_flags one other)
not_first (Good one) BadLength not = absurd (not refl)
not_first (Good one) BadCrc not = absurd (not refl)
not_first (Good one) Unterminated not = absurd (not refl)
not_first BadLength b not = ⊎_elim (λ is. is) (λ good. absurd good) (bad_first b BadLength)
not_first BadCrc b not = ⊎_elim (λ is. is) (λ good. absurd good) (bad_first b BadCrc)
not_first Unterminated b not = ⊎_elim (λ is. is) (λ good. absurd good) (bad_first b Unterminated)

first_bytes : (a : CopyState) (first one other : List ℕ) → bytes_of_choice (first_alone a) first one ≡ bytes_of_choice (first_alone a) first other
unfolding first_alone
first_bytes (Good flag) first one other = refl
first_bytes BadLength first one other = refl
first_bytes BadCrc first one other = refl
first_bytes Unterminated first one other = refl

second_bytes : (b : CopyState) (second one other : List ℕ) → bytes_of_choice (second_alone b) one second ≡ bytes_of_choice (second_alone b) other second
unfolding second_alone
second_bytes (Good flag) second one other = refl
second_bytes BadLength second one other = refl
second_bytes BadCrc second one other = refl
second_bytes Unterminated second one other = refl

environment : Shape → Option (List ℕ) → Option Environment
environment shape bytes = option_map (λ copy. vars_of (entries_of (area_of shape copy))) bytes

pub second_torn : (shape : Shape) (first second torn : List ℕ) → choice_in shape first second ≢ Second → (opened shape first torn ≡ opened shape first second) ⊎ Passes shape torn
unfolding environment
second_torn shape first second torn not =
    let a = state_of shape first in
    let was = not_second a (state_of shape second) not in
    ⊎_elim
    (λ is. inl (ap (environment shape) (ap (λ c. bytes_of_choice c first torn) is ∙ first_bytes a first torn second ∙ ap (λ c. bytes_of_choice c first second) (sym was))))
    (λ good. inr good)
    (bad_second a (state_of shape torn))

pub first_torn : (shape : Shape) (first second torn : List ℕ) → choice_in shape first second ≢ First → (opened shape torn second ≡ opened shape first second) ⊎ Passes shape torn
unfolding environment
first_torn shape first second torn not =
    let b = state_of shape second in
    let was = not_first (state_of shape first) b not in
    ⊎_elim
    (λ is. inl (ap (environment shape) (ap (λ c. bytes_of_choice c torn second) is ∙ second_bytes b second torn first ∙ ap (λ c. bytes_of_choice c first second) (sym was))))
    (λ good. inr good)
    (bad_first b (state_of shape torn))

pub second_cut : (shape : Shape) (other left old new torn : List ℕ) → left ≡ other → NoneByChance shape old new torn → choice_in shape other old ≢ Second → (opened shape left torn ≡ opened shape other old) ⊎ (opened shape left torn ≡ opened shape other new)
second_cut shape other left old new torn same chance not =
    let keeps : opened shape left torn ≡ opened shape other torn = ap (λ o. opened shape o torn) same in
    ⊎_elim
    (λ is. inl (keeps ∙ is))
    (λ good. ⊎_elim (λ is. inl (keeps ∙ ap (opened shape other) is)) (λ is. inr (keeps ∙ ap (opened shape other) is)) (chance good))
    (second_torn shape other old torn not)

pub first_cut : (shape : Shape) (other left old new torn : List ℕ) → left ≡ other → NoneByChance shape old new torn → choice_in shape old other ≢ First → (opened shape torn left ≡ opened shape old other) ⊎ (opened shape torn left ≡ opened shape new other)
first_cut shape other left old new torn same chance not =
    let keeps : opened shape torn left ≡ opened shape torn other = ap (opened shape torn) same in
    ⊎_elim
    (λ is. inl (keeps ∙ is))
    (λ good. ⊎_elim (λ is. inl (keeps ∙ ap (λ o. opened shape o other) is)) (λ is. inr (keeps ∙ ap (λ o. opened shape o other) is)) (chance good))
    (first_torn shape old other torn not)

pub copy_is : (shape : Shape) (at : ℕ) (bytes device : List ℕ) → length bytes ≡ shape.size → Shows device at bytes → copy_at shape at device ≡ bytes
copy_is shape at bytes device size shows = ap (λ (n : ℕ). take n (drop at device)) (sym size) ∙ shows

-- of the two copies the one that is written first is torn, or the other
pub second_then_first : (shape : Shape) (b0 b1 a0 a1 b a : List ℕ) → (b ≡ b0) ⊎ (a ≡ a1) → NoneByChance shape a0 a1 a → NoneByChance shape b0 b1 b
    → choice_in shape b0 a0 ≢ Second → choice_in shape b0 a1 ≢ First
    → (opened shape b a ≡ opened shape b0 a0) ⊎ (opened shape b a ≡ opened shape b0 a1) ⊎ (opened shape b a ≡ opened shape b1 a1)
second_then_first shape b0 b1 a0 a1 b a (inl same) one other before newer =
    ⊎_elim (λ is. inl is) (λ is. inr (inl is)) (second_cut shape b0 b a0 a1 a same one before)
second_then_first shape b0 b1 a0 a1 b a (inr same) one other before newer =
    ⊎_elim (λ is. inr (inl is)) (λ is. inr (inr is)) (first_cut shape a1 a b0 b1 b same other newer)

pub first_then_second : (shape : Shape) (b0 b1 a0 a1 b a : List ℕ) → (b ≡ b0) ⊎ (a ≡ a1) → NoneByChance shape a0 a1 a → NoneByChance shape b0 b1 b
    → choice_in shape a0 b0 ≢ First → choice_in shape a1 b0 ≢ Second
    → (opened shape a b ≡ opened shape a0 b0) ⊎ (opened shape a b ≡ opened shape a1 b0) ⊎ (opened shape a b ≡ opened shape a1 b1)
first_then_second shape b0 b1 a0 a1 b a (inl same) one other before newer =
    ⊎_elim (λ is. inl is) (λ is. inr (inl is)) (first_cut shape b0 b a0 a1 a same one before)
first_then_second shape b0 b1 a0 a1 b a (inr same) one other before newer =
    ⊎_elim (λ is. inr (inl is)) (λ is. inr (inr is)) (second_cut shape a1 a b0 b1 b same other newer)

-- by what one_copy_torn says of two
pub which : (shape : Shape) (one other : Change) (device left : List ℕ) → length one.to_write.now ≡ shape.size → length other.as_read.now ≡ shape.size
    → Shows device other.at other.as_read.now → IsOneTorn (one ∷ other ∷ []) left
    → (copy_at shape other.at left ≡ copy_at shape other.at device) ⊎ (copy_at shape one.at left ≡ one.to_write.now)
which shape one other device left one_size other_size found (inl rest) =
    inl (copy_is shape other.at other.as_read.now left other_size rest.0 ∙ sym (copy_is shape other.at other.as_read.now device other_size found))
which shape one other device left one_size other_size found (inr rest) = inr (copy_is shape one.at one.to_write.now left one_size rest.0)
