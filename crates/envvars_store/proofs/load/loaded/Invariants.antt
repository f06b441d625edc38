use Rattle.std.proofs.Common.{◌≡◌, ◌≤◌, ◌-◌, length, fold, drop}
use Rattle.std.specs.FinMap as env
use Rattle.envimg_core.specs.Pieces.{entries_of, vars_of, after_entry}
use Rattle.envvars_store.specs.Runs.{listed, AreInOrder}
use Rattle.envvars_store.proofs.load.loaded.Given as goal

-- the entries that are left make of these variables those of the area
abbrev pub invariant-walk : goal.invariant-walk
invariant-walk l =
    record {
      within : l.at ≤ length l.area;
      in_order : AreInOrder l.area l.runs.items;
      left : fold after_entry (env.from_sorted (listed l.area l.runs.items)) (entries_of (drop l.at l.area)) ≡ vars_of (entries_of l.area);
    }

abbrev pub decreases-walk : goal.decreases-walk
decreases-walk l = length l.area - l.at
