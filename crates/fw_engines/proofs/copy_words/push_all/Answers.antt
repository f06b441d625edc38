use Rattle.std.proofs.Common.{ℕ, List, [], Bor}
use Rattle.fw_engines.proofs.PartLemmas.{one_more_part, place_cut}
use Rattle.fw_engines.proofs.copy_words.push_all.Goals as goal

pub loop-part-preserved : goal.loop-part-preserved
loop-part-preserved c =
    let d : Bor (List ℕ) = record { ref_ptr = (0, 0); now = [] } in
    one_more_part (λ p. p.now) c.args.parts.now c.loop-part.part-index _ c.loop-part.text.items _ _
    (place_cut c.args.parts.now c.loop-part.part-index d c.loop-part-test.true) c.in_ok-extend_from_slice.ensures.items c.loop-part.invariant
