use Rattle.std.proofs.Common.{◌≡◌, ◌+◌, length}
use Rattle.std.specs.FinMap as env
use Rattle.dump_search.proofs.dump.count_of.Given as goal

abbrev pub invariant-loop-line : goal.invariant-loop-line
invariant-loop-line l = length l.lines.items + length l.line-iterator ≡ length (env.entries l.vars.env)
