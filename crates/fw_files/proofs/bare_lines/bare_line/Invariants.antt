use Rattle.std.proofs.Common.{◌≡◌, map}
use Rattle.envcfg_core.specs.Entries.{entry_view}
use Rattle.fw_files.specs.BareLines.{bare_among, bare_line}
use Rattle.fw_files.proofs.bare_lines.bare_line.Given as goal

abbrev pub invariant-loop-number : goal.invariant-loop-number
invariant-loop-number l = bare_among l.number-iterator (map entry_view l.left) ≡ bare_line l.text (map entry_view l.entries)
