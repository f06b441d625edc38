use Rattle.std.proofs.Common.{◌≡◌, ◌%◌, ◌^◌, take}
use Rattle.text_parts.specs.Digits.{number}
use Rattle.text_parts.proofs.digits.wrapped_number.Given as goal

abbrev pub invariant-loop-digit : goal.invariant-loop-digit
invariant-loop-digit l = l.number ≡ number l.fn.base (take l.digit-index l.digits) % 2 ^ 64
