use Rattle.std.proofs.Common.{◌≡◌, ◌+◌, ◌≤◌, length, map, false}
use Rattle.envcfg_core.specs.Entries.{entry_view}
use Rattle.envcfg_core.specs.ImportSteps.{with_front}
use Rattle.envcfg_core.specs.Import.{entries_from, is_skipped}
use Rattle.text_parts.specs.Bytes.{begins}
use Rattle.envcfg_core.proofs.import.parse_import.Given as goal

abbrev pub invariant-loop-rest : goal.invariant-loop-rest
invariant-loop-rest l = record {
  read : entries_from 1 l.text ≡ with_front (map entry_view l.entries.items) (entries_from l.rest.line l.rest.text.now);
  reached : begins is_skipped l.rest.text.now ≡ false;
  within : l.rest.line + length l.rest.text.now ≤ 1 + length l.text;
}

abbrev pub decreases-loop-rest : goal.decreases-loop-rest
decreases-loop-rest l = length l.rest.text.now
