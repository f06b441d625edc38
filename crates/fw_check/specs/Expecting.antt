-- What is expected of the next word of a test, in the code's form.
use Rattle.std.specs.Prelude.{option_map}
use Rattle.fw_check.specs.declared.operators.Suspect.{Suspect}
use Rattle.fw_check.specs.declared.operators.Expected.{Expected}
use Rattle.fw_check.specs.declared.operators.Expected.TheVariants as expected
use Rattle.fw_check.specs.Operators as operators
use Rattle.fw_check.specs.Targets.{Target, target}

abbrev pub suspect_view : Suspect → Target
suspect_view s = target s.count s.bytes.items

abbrev pub expected_view : Expected → operators.Expected
expected_view expected.ATerm = operators.ATerm
expected_view (expected.Operator first) = operators.Operator (option_map suspect_view first)
expected_view expected.AfterValue = operators.AfterValue
expected_view expected.Operand = operators.Operand
expected_view expected.Joint = operators.Joint
expected_view expected.Joined = operators.Joined
expected_view expected.Tested = operators.Tested
expected_view expected.Interface = operators.Interface
expected_view expected.Device = operators.Device
expected_view expected.Unclear = operators.Unclear
expected_view expected.Nothing = operators.Nothing
expected_view expected.Broken = operators.Broken
expected_view (expected.Wrong s) = operators.Wrong (suspect_view s)
