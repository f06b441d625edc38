-- What holds of the meaning for every script.
use Rattle.std.specs.Prelude.{◌≡◌, ℕ, suc, ◌≤◌, Bool, if◌then◌else◌}
use Rattle.hush_syntax.specs.Grammar.{Chains}
use Rattle.hush_run.specs.Meaning.{Rules, State, Out, Goes, ◌>>=◌, with_status, goes_on, loop_status, turns, chains, start}

-- the turns of a loop, one more than steps may be counted
abbrev pub loop : Rules → Bool → (condition body : State → Out) → (last : ℕ) → State → Out
loop rules wanted condition body last s = turns rules.shell (suc rules.limits.steps) wanted condition body last s

-- the condition of a loop, its body, and the loop again
abbrev pub turn : Rules → Bool → (condition body : State → Out) → (last : ℕ) → State → Out
turn rules wanted condition body last s =
    condition s >>= λ t. if goes_on wanted t then (body t >>= λ u. loop rules wanted condition body u.status u) else Goes (with_status (loop_status rules.shell last t.status) t)

-- a loop is such a turn, so the number of its turns may be forgotten
abbrev pub LoopsUnroll : Type 0
LoopsUnroll =
    (rules : Rules) (levels : ℕ) (wanted : Bool) (c d : Chains) (last : ℕ) (s : State) → s.steps ≤ rules.limits.steps →
    loop rules wanted (chains rules (start rules levels) c) (chains rules (start rules levels) d) last s
    ≡ turn rules wanted (chains rules (start rules levels) c) (chains rules (start rules levels) d) last s
