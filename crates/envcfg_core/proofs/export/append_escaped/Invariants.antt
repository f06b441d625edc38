use Rattle.std.proofs.Common.{◌≡◌, ◌+◌, ◌≤◌, ◌++◌, length, vec_len, vec_capacity}
use Rattle.envcfg_core.specs.Export.{escaped}
use Rattle.envcfg_core.proofs.export.append_escaped.Given as goal

abbrev pub invariant-loop-at : goal.invariant-loop-at
invariant-loop-at l = record {
  items : l.output.items ++ escaped l.rest ≡ l.initial.output.items ++ escaped l.value;
  len : vec_len l.output + length (escaped l.rest) ≡ vec_len l.initial.output + length (escaped l.value);
  room : vec_capacity l.initial.output ≤ vec_capacity l.output;
}

abbrev pub decreases-loop-at : goal.decreases-loop-at
decreases-loop-at l = length l.rest
