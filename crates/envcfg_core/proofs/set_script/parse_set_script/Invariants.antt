use Rattle.std.proofs.Common.{◌≡◌, map}
use Rattle.envcfg_core.specs.Entries.{entry_view}
use Rattle.envcfg_core.specs.ImportSteps.{with_front}
use Rattle.text_parts.specs.Lines.{numbered_lines}
use Rattle.envcfg_core.specs.SetScript.{entries_of_lines}
use Rattle.envcfg_core.proofs.set_script.parse_set_script.Given as goal

abbrev pub invariant-loop-number : goal.invariant-loop-number
invariant-loop-number l =
    entries_of_lines (numbered_lines l.text) ≡ with_front (map entry_view l.entries.items) (entries_of_lines l.number-iterator)
