use Rattle.std.proofs.Common.{◌≡◌, ◌++◌}
use Rattle.env_requests.specs.Requests.{listing}
use Rattle.env_requests.proofs.ObeyLemmas.{ended_lines}
use Rattle.env_requests.proofs.obedience.listing.Given as goal

abbrev pub invariant-loop-line : goal.invariant-loop-line
invariant-loop-line l = listing l.vars.env ≡ l.text.items ++ ended_lines l.line-iterator
