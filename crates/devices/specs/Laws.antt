-- What the laws of this crate say.
use Rattle.std.specs.Prelude.{◌≡◌, ◌⊎◌, ℕ, ◌+◌, ◌≤◌, List, [], ◌∷◌, length, take, drop, ⊤}
use Rattle.devices.specs.declared.writing.Change.{Change}
use Rattle.devices.specs.Changes.{Shows, AreAsRead, OneAtATime, KeepLength, AreApart}

-- each copy is whole but for one: those before it have their new bytes, and those after it the old
abbrev pub IsOneTorn : List Change → List ℕ → Type 0
IsOneTorn [] left = ⊤
IsOneTorn (change ∷ changes) left =
    AreAsRead changes left ⊎ (Shows left change.at change.to_write.now × IsOneTorn changes left)

-- n bytes from here on are in none of the copies
abbrev pub IsClearOf : ℕ → ℕ → List Change → Type 0
IsClearOf at n [] = ⊤
IsClearOf at n (change ∷ changes) =
    ((change.at + length change.to_write.now ≤ at) ⊎ (at + n ≤ change.at)) × IsClearOf at n changes

-- whatever a crash leaves, at most one copy is torn
abbrev pub OneCopyTorn : Type 0
OneCopyTorn =
    (changes : List Change) (device left : List ℕ) →
    KeepLength changes → AreApart changes → AreAsRead changes device → OneAtATime changes device left →
    IsOneTorn changes left

-- and each byte outside the copies is as it was
abbrev pub NoOtherByte : Type 0
NoOtherByte =
    (changes : List Change) (device left : List ℕ) (at n : ℕ) →
    KeepLength changes → AreAsRead changes device → IsClearOf at n changes → OneAtATime changes device left →
    take n (drop at left) ≡ take n (drop at device)
