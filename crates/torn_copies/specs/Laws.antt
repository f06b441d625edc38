-- What the laws of this crate say.
use Rattle.std.specs.Prelude.{◌≡◌, ◌≢◌, ◌⊎◌, ℕ, List, [], ◌∷◌, length}
use Rattle.devices.specs.declared.writing.Change.{Change}
use Rattle.devices.specs.Changes.{WrittenBack, IsApart}
use Rattle.devices.specs.Laws.{IsClearOf}
use Rattle.envimg_core.specs.Geometry.{Shape}
use Rattle.envimg_core.specs.declared.choice.Choice.TheVariants.{First, Second}
use Rattle.torn_copies.specs.Copies.{choice_in, opened, Passes, copy_at}

-- whatever is at the place of a copy that isn't current, the same environment opens, or that passes its own checksum
abbrev pub OneIsTorn : Type 0
OneIsTorn =
    (shape : Shape) (first second torn : List ℕ) →
    ((choice_in shape first second ≢ Second) →
    (opened shape first torn ≡ opened shape first second) ⊎ Passes shape torn)
    × ((choice_in shape first second ≢ First) →
    (opened shape torn second ≡ opened shape first second) ⊎ Passes shape torn)

-- a copy that passes its checksum is the old one or the new one: no torn copy passes by chance
abbrev pub NoneByChance : Shape → List ℕ → List ℕ → List ℕ → Type 0
NoneByChance shape old new torn = Passes shape torn → (torn ≡ old) ⊎ (torn ≡ new)

-- Two copies are in a device, and one that isn't current is written back. The environment that opens is the one from
-- before, or the new one, if no torn copy passes its checksum by chance. It is said for either order of the two.
abbrev pub OpensEither : Shape → ℕ → Change → List ℕ → List ℕ → Type 0
OpensEither shape at change device left =
    let other = copy_at shape at device in
    let old = copy_at shape change.at device in
    let new = change.to_write.now in
    NoneByChance shape old new (copy_at shape change.at left) →
    ((choice_in shape other old ≢ Second) →
    (opened shape (copy_at shape at left) (copy_at shape change.at left) ≡ opened shape other old)
    ⊎ (opened shape (copy_at shape at left) (copy_at shape change.at left) ≡ opened shape other new))
    × ((choice_in shape old other ≢ First) →
    (opened shape (copy_at shape change.at left) (copy_at shape at left) ≡ opened shape old other)
    ⊎ (opened shape (copy_at shape change.at left) (copy_at shape at left) ≡ opened shape new other))

-- whatever is left of a save that is cut short
abbrev pub SaveCutShort : Type 0
SaveCutShort =
    (shape : Shape) (at : ℕ) (change : Change) (device left : List ℕ) →
    length change.to_write.now ≡ length change.as_read.now → IsClearOf at shape.size (change ∷ []) →
    WrittenBack (change ∷ []) device left → OpensEither shape at change device left

-- Both copies are written back, first the one that isn't current, which is to be the newer once it is written. Then
-- what opens is the environment from before, or that of the copy which is written first, or the last, under the same
-- premise. It is said for either order of the two.
abbrev pub OpensOneOfThree : Shape → Change → Change → List ℕ → List ℕ → Type 0
OpensOneOfThree shape one other device left =
    let one_old = copy_at shape one.at device in
    let one_new = one.to_write.now in
    let other_old = copy_at shape other.at device in
    let other_new = other.to_write.now in
    let one_left = copy_at shape one.at left in
    let other_left = copy_at shape other.at left in
    NoneByChance shape one_old one_new one_left → NoneByChance shape other_old other_new other_left →
    ((choice_in shape other_old one_old ≢ Second) → (choice_in shape other_old one_new ≢ First) →
    (opened shape other_left one_left ≡ opened shape other_old one_old)
    ⊎ (opened shape other_left one_left ≡ opened shape other_old one_new)
    ⊎ (opened shape other_left one_left ≡ opened shape other_new one_new))
    × ((choice_in shape one_old other_old ≢ First) → (choice_in shape one_new other_old ≢ Second) →
    (opened shape one_left other_left ≡ opened shape one_old other_old)
    ⊎ (opened shape one_left other_left ≡ opened shape one_new other_old)
    ⊎ (opened shape one_left other_left ≡ opened shape one_new other_new))

-- the copies are of this size
abbrev pub IsOfSize : Shape → Change → Type 0
IsOfSize shape change = (length change.as_read.now ≡ shape.size) × (length change.to_write.now ≡ shape.size)

-- whatever is left of two saves that are cut short
abbrev pub BothCutShort : Type 0
BothCutShort =
    (shape : Shape) (one other : Change) (device left : List ℕ) →
    IsOfSize shape one → IsOfSize shape other → IsApart one other →
    WrittenBack (one ∷ other ∷ []) device left → OpensOneOfThree shape one other device left
