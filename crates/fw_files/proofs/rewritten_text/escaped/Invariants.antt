use Rattle.std.proofs.Common.{◌≡◌, ◌++◌, drop}
use Rattle.std.specs.List.{flat_map}
use Rattle.fw_files.specs.Source.{escaped_byte}
use Rattle.fw_files.proofs.rewritten_text.escaped.Given as goal

abbrev pub invariant-loop-byte : goal.invariant-loop-byte
invariant-loop-byte l = l.escaped.items ++ flat_map escaped_byte (drop l.byte-index l.text) ≡ flat_map escaped_byte l.text
