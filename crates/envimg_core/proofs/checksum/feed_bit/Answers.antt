use Rattle.std.proofs.Common.{ℕ, cond, bit_xor, ◌/◌, ap, sym, eq-eqb, ne_eqb}
use Rattle.envimg_core.specs.Register.{step}
use Rattle.envimg_core.proofs.checksum.feed_bit.Goals as goal

pub returns-then-register-eq1 : goal.returns-then-register-eq1
unfolding step
returns-then-register-eq1 c =
    let r : ℕ = c.args.register in
    sym (ap (λ b. cond b (bit_xor (r / 2) 0xEDB88320) (r / 2)) (eq-eqb _ _ c.if-register-eq1.true))

pub returns-else-register-eq1 : goal.returns-else-register-eq1
unfolding step
returns-else-register-eq1 c =
    let r : ℕ = c.args.register in
    sym (ap (λ b. cond b (bit_xor (r / 2) 0xEDB88320) (r / 2)) (ne_eqb _ _ c.if-register-eq1.false))
