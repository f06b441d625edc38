-- How many steps a part of a script counts.
use Rattle.std.specs.Prelude.{ℕ, suc, ◌≤◌}
use Rattle.hush_run.specs.Meaning.{Rules, Starting, Begin, State, Out, Goes, Leaves, Ends}

-- if it goes on or leaves its text, this many steps are counted
abbrev pub Within : ℕ → ℕ → Out → Type 0
Within low high (Goes t) = (low ≤ t.steps) × (t.steps ≤ high)
Within low high (Leaves own t) = (low ≤ t.steps) × (t.steps ≤ high)
Within low high (Ends e place t) = Unit {0}

-- at each state within the limit, this goes on with more steps; or with no fewer
abbrev pub Counts : Rules → (State → Out) → Type 0
Counts rules p = (s : State) → s.steps ≤ rules.limits.steps → Within (suc s.steps) rules.limits.steps (p s)

abbrev pub Keeps : Rules → (State → Out) → Type 0
Keeps rules p = (s : State) → s.steps ≤ rules.limits.steps → Within s.steps rules.limits.steps (p s)

-- each start counts a step
abbrev pub Counting : Rules → Begin → Type 0
Counting rules begin = (x : Starting) → Counts rules (begin x)
