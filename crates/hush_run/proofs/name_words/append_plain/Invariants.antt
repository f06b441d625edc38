use Rattle.std.proofs.Common.{◌≡◌, ◌++◌}
use Rattle.hush_run.specs.Steps.{plain_bytes}
use Rattle.hush_run.proofs.name_words.append_plain.Given as goal

abbrev pub invariant-loop-part : goal.invariant-loop-part
invariant-loop-part l = record {
  source : l.left.source ≡ l.text.source;
  read : l.name.items ++ plain_bytes l.left.atoms ≡ l.initial.name.items ++ plain_bytes l.fn.parts.atoms;
}

abbrev pub decreases-loop-part : goal.decreases-loop-part
decreases-loop-part l = l.left.bytes
