use Rattle.std.proofs.Common.{◌≡◌, ◌≤◌, ◌++◌, drop, length}
use Rattle.hush_calc.specs.Hexadecimal.{digits_of}
use Rattle.hush_calc.proofs.hexadecimal.Hexadecimal.new.Given as goal

abbrev pub invariant-loop-rest : goal.invariant-loop-rest
invariant-loop-rest l = record {
  within : l.start ≤ 16;
  whole : length l.digits ≡ 16;
  text : digits_of 16 l.value ≡ digits_of l.start l.rest ++ drop l.start l.digits;
}

abbrev pub decreases-loop-rest : goal.decreases-loop-rest
decreases-loop-rest l = l.start
