-- What the board of the tests does.
use Rattle.std.specs.Prelude.{ℕ, ◌+◌, ◌==◌, List, [], ◌∷◌, ◌++◌, slice_index, nat_le, if◌then◌else◌, codes}
use Rattle.std.specs.Fmt.{decimal}
use Rattle.boot_search.specs.declared.board.End.{End}
use Rattle.boot_search.specs.declared.board.End.TheVariants.{Boots, Resets, Unknown}
use Rattle.boot_search.specs.Outcomes.{Given, Outcome, asks, ended}

abbrev pub save : List ℕ
save = codes "saveenv" ++ 0 ∷ []

abbrev pub boot : List ℕ
boot = codes "bootm" ++ 0 ∷ codes "0x42000000" ++ 0 ∷ []

-- a count that is stored before the system starts: the first answer is of the save, the second of the system
abbrev pub counts : ℕ → List ℕ → List Given → Outcome
counts count state [] = asks save 2
counts count state (first ∷ []) = if first.choice == 0 then asks boot 2 else ended Resets save state
counts count state (first ∷ (second ∷ answers)) =
    if first.choice == 0 then (if second.choice == 0 then ended Boots boot ((count + 1) ∷ []) else ended Resets (codes "reset" ++ 0 ∷ []) ((count + 1) ∷ []))
    else ended Resets save state

abbrev pub full_by : End → List ℕ
full_by Boots = boot
full_by Unknown = codes "steps" ++ 0 ∷ []
full_by _ = []

abbrev pub counted : (most : ℕ) → (full : End) → List ℕ → List Given → Outcome
counted most full state answers = if nat_le most (slice_index state 0) then ended full (full_by full) state else counts (slice_index state 0) state answers

abbrev pub tells_count : List ℕ → List ℕ
tells_count state = codes "  count " ++ decimal (slice_index state 0) ++ codes "\n"
