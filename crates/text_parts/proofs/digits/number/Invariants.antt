use Rattle.std.proofs.Common.{◌≡◌, min, take}
use Rattle.text_parts.specs.Digits.{number}
use Rattle.text_parts.proofs.digits.number.Given as goal

abbrev pub invariant-loop-digit : goal.invariant-loop-digit
invariant-loop-digit l = l.number ≡ min (number l.fn.base (take l.digit-index l.digits)) l.most
