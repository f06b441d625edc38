use Rattle.std.proofs.Common.{◌≡◌, ◌++◌, drop, map}
use Rattle.fw_check.specs.Lines.{plain_byte}
use Rattle.fw_check.proofs.lines.push_plain.Given as goal

abbrev pub invariant-loop-byte : goal.invariant-loop-byte
invariant-loop-byte l = l.text.items ++ map plain_byte (drop l.byte-index l.bytes) ≡ l.initial.text.items ++ map plain_byte l.bytes
