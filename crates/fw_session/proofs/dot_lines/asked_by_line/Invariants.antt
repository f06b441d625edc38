use Rattle.std.proofs.Common.{◌≡◌, ◌≤◌, take, length}
use Rattle.fw_session.specs.Asked.{trimmed}
use Rattle.fw_session.proofs.dot_lines.asked_by_line.Given as goal

abbrev pub invariant-loop-length : goal.invariant-loop-length
invariant-loop-length l = (l.length ≤ length l.line) × (trimmed l.line ≡ trimmed (take l.length l.line))

abbrev pub decreases-loop-length : goal.decreases-loop-length
decreases-loop-length l = l.length
