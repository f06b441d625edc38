use Rattle.std.proofs.Common.{refl}
use Rattle.hush_calc.proofs.board.read_file.Goals as goal

pub returns-in-Some-clause-value : goal.returns-in-Some-clause-value
returns-in-Some-clause-value g c =
    rw (c.in_ok-_interface.ensures.steps, c.in_ok-_device.ensures.steps, c.in-Some.ensures.steps, c.with_value.ensures, c.is_there.ensures, c.again-named.ensures, c.in_ok-_interface.ensures.steps, c.in_ok-_device.ensures.steps, c.in-Some.ensures.steps) refl
