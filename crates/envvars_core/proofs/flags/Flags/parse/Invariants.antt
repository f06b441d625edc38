use Rattle.std.proofs.Common.{◌≡◌, ℕ, List, length, take}
use Rattle.std.specs.List.{slice_split}
use Rattle.envvars_core.specs.Attributes.{is_comma, found_among}
use Rattle.envvars_core.proofs.FlagLemmas.{last_first}
use Rattle.envvars_core.proofs.flags.Flags.parse.Given as goal

abbrev pub invariant-loop-piece : goal.invariant-loop-piece
invariant-loop-piece l =
    (n : List ℕ) → found_among l.flags n ≡ found_among (last_first (take (length l.yielded) (slice_split is_comma l.text))) n
