use Rattle.std.proofs.Common.{◌≡◌, ◌≤◌, ◌-◌, ◌++◌, length, take, drop}
use Rattle.text_parts.specs.Digits.{digits_in_front}
use Rattle.text_parts.proofs.digits.digits_in_front.Given as goal

abbrev pub invariant-loop-end : goal.invariant-loop-end
invariant-loop-end l = record {
  within : l.end ≤ length l.text;
  digits : digits_in_front l.base l.text ≡ take l.end l.text ++ digits_in_front l.base (drop l.end l.text);
}

abbrev pub decreases-loop-end : goal.decreases-loop-end
decreases-loop-end l = length l.text - l.end
