use Rattle.std.proofs.Common.{◌≡◌, ◌++◌, drop, false}
use Rattle.fw_files.specs.Source.{closed_lines}
use Rattle.fw_files.proofs.rewritten_text.closed.Given as goal

abbrev pub invariant-loop-byte : goal.invariant-loop-byte
invariant-loop-byte l = l.closed.items ++ closed_lines l.escaped (drop l.byte-index l.text) ≡ closed_lines false l.text
