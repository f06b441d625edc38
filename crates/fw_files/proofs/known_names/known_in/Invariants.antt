use Rattle.std.proofs.Common.{◌≡◌}
use Rattle.fw_files.specs.KnownNames.{known_names, names_view, with_lines}
use Rattle.fw_files.proofs.known_names.known_in.Given as goal

abbrev pub invariant-loop-number : goal.invariant-loop-number
invariant-loop-number l = known_names l.text ≡ with_lines (names_view l.names) l.number-iterator
