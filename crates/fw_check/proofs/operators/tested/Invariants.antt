use Rattle.std.proofs.Common.{◌≡◌, drop}
use Rattle.std.specs.Prelude.{fold}
use Rattle.fw_check.specs.Expecting.{expected_view}
use Rattle.fw_check.specs.CommandFindings.{after_field}
use Rattle.fw_check.specs.Operators.{ATerm}
use Rattle.fw_check.proofs.operators.tested.Given as goal

abbrev pub invariant-loop-word : goal.invariant-loop-word
invariant-loop-word l = fold (after_field l.shell l.text) (expected_view l.expected) (drop l.word-index l.words) ≡ fold (after_field l.shell l.text) ATerm l.words
