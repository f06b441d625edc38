use Rattle.std.proofs.Common.{◌-◌, ◌≤◌, length, take, drop}
use Rattle.envvars_store.specs.Order.{AllBefore, StartsAfter}
use Rattle.envvars_store.specs.Runs.{pairs}
use Rattle.envvars_store.proofs.search.index_of.Given as goal

-- what is below `low` comes before the name, and what is at `high` after it
abbrev pub invariant-halving : goal.invariant-halving
invariant-halving l =
    record {
      ordered : l.low ≤ l.high;
      within : l.high ≤ length l.variables;
      before : AllBefore l.name (take l.low (pairs l.area l.variables));
      after : StartsAfter l.name (drop l.high (pairs l.area l.variables));
    }

abbrev pub decreases-halving : goal.decreases-halving
decreases-halving l = l.high - l.low
