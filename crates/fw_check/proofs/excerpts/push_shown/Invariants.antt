use Rattle.std.proofs.Common.{◌≡◌, ◌++◌, drop, map}
use Rattle.fw_check.specs.Excerpts.{shown_byte}
use Rattle.fw_check.proofs.excerpts.push_shown.Given as goal

abbrev pub invariant-loop-byte : goal.invariant-loop-byte
invariant-loop-byte l = l.text.items ++ map shown_byte (drop l.byte-index l.bytes) ≡ l.initial.text.items ++ map shown_byte l.bytes
