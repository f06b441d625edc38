use Rattle.std.proofs.Common.{◌≡◌, ◌++◌}
use Rattle.fw_engines.specs.SkippedLines.{skipped_among, skipped_lines}
use Rattle.fw_engines.proofs.skipped_lines.skipped_lines.Given as goal

abbrev pub invariant-loop-number : goal.invariant-loop-number
invariant-loop-number l = l.numbers.items ++ skipped_among l.number-iterator l.wanted ≡ skipped_lines l.text
