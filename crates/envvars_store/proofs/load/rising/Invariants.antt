use Rattle.std.proofs.Common.{◌≡◌, ◌+◌, ◌<◌, ◌-◌, ◌++◌, ◌∷◌, [], false, length, fold, drop, All, slice_range}
use Rattle.std.specs.FinMap as env
use Rattle.envimg_core.specs.Pieces.{entries_of, vars_of, after_entry}
use Rattle.envimg_core.specs.Environment.{is_equals}
use Rattle.envvars_store.specs.Laying.{IsExtent}
use Rattle.envvars_store.specs.Runs.{listed, AreInOrder}
use Rattle.envvars_store.proofs.RisingLemmas.{RisesTo}
use Rattle.envvars_store.proofs.load.rising.Given as goal

-- the run that is being filled is after the others; a name after the last one comes after all; the entries that are left make of these variables those of the area
abbrev pub invariant-walk : goal.invariant-walk
invariant-walk l =
    record {
      in_order : AreInOrder l.area (l.runs.items ++ l.run ∷ []);
      extent : IsExtent l.area l.last;
      ends : l.last.end < length l.area;
      plain : All (λ b. is_equals b ≡ false) (slice_range l.area l.last.start l.last.middle);
      rises : RisesTo l.area (l.runs.items ++ l.run ∷ []) (slice_range l.area l.last.start l.last.middle);
      left : fold after_entry (env.from_sorted (listed l.area (l.runs.items ++ l.run ∷ []))) (entries_of (drop (l.last.end + 1) l.area)) ≡ vars_of (entries_of l.area);
    }

abbrev pub decreases-walk : goal.decreases-walk
decreases-walk l = length l.area - l.last.end
