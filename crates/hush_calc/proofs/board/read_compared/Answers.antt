use Rattle.std.proofs.Common.{refl}
use Rattle.hush_calc.proofs.board.read_compared.Goals as goal

pub returns-in-Some-clause-value : goal.returns-in-Some-clause-value
returns-in-Some-clause-value c = λ there.
    rw (c.in_ok-_operator.ensures.steps, c.in-Some.ensures.steps, c.with_value.ensures, c.holds.ensures) refl
