use Rattle.std.proofs.Common.{◌-◌, ◌≤◌, length, take, drop}
use Rattle.envvars_store.specs.Order.{AllBefore, StartsAfter}
use Rattle.envvars_store.specs.Runs.{listed}
use Rattle.envvars_store.proofs.search.run_of.Given as goal

-- the runs below the last that was passed come before the name, and what begins at `high` comes after it
abbrev pub invariant-halving : goal.invariant-halving
invariant-halving l =
    record {
      ordered : l.low ≤ l.high;
      within : l.high ≤ length l.runs;
      before : AllBefore l.name (listed l.area (take (l.low - 1) l.runs));
      after : StartsAfter l.name (listed l.area (drop l.high l.runs));
    }

abbrev pub decreases-halving : goal.decreases-halving
decreases-halving l = l.high - l.low
