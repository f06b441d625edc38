use Rattle.std.proofs.Common.{◌≡◌, ◌++◌, drop}
use Rattle.std.specs.List.{flat_map}
use Rattle.fw_engines.specs.CopyStatus.{skipped_line}
use Rattle.fw_engines.proofs.copy_status.push_skipped_lines.Given as goal

abbrev pub invariant-loop-number : goal.invariant-loop-number
invariant-loop-number l =
    l.text.items ++ flat_map (skipped_line l.path) (drop l.number-index l.numbers) ≡ l.initial.text.items ++ flat_map (skipped_line l.path) l.numbers
