use Rattle.std.proofs.Common.{◌≡◌, ◌+◌, ◌≤◌, length, false}
use Rattle.envcfg_core.specs.Import.{spelled}
use Rattle.envcfg_core.specs.ImportSteps.{onto}
use Rattle.envcfg_core.proofs.spelled.read_value.Given as goal

abbrev pub invariant-loop-bytes : goal.invariant-loop-bytes
invariant-loop-bytes l = record {
  value : spelled false l.text ≡ onto l.bytes.items l.newlines (spelled false l.rest);
  within : l.newlines + length l.rest ≤ length l.text;
}

abbrev pub decreases-loop-bytes : goal.decreases-loop-bytes
decreases-loop-bytes l = length l.rest
