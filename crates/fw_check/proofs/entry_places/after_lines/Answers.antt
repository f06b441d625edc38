use Rattle.std.proofs.Common.{◌≡◌, ◌+◌, ◌-◌, ℕ, arith, ap, suc, sym, ◌∙◌}
use Rattle.fw_check.specs.EntryPlaces.{after_lines}
use Rattle.fw_check.proofs.EntryPlaceLemmas.{lines-next, lines-none}
use Rattle.fw_check.proofs.entry_places.after_lines.Goals as goal

pub loop-preserved : goal.loop-preserved
loop-preserved c =
    let left = c.args.count - (c.loop.counter + 1) in
    let one : suc left ≡ c.args.count - c.loop.counter = omega (arith, c.loop-test.true) in
    ap (after_lines left) c.after_newline-rest.ensures ∙ sym (lines-next left c.loop.rest.now) ∙ ap (λ (n : ℕ). after_lines n c.loop.rest.now) one ∙ c.loop.invariant

pub returns : goal.returns
returns c =
    let none : 0 ≡ c.args.count - c.loop.counter = omega (arith, c.loop-test.false) in
    sym (lines-none c.loop.rest.now) ∙ ap (λ (n : ℕ). after_lines n c.loop.rest.now) none ∙ c.loop.invariant
