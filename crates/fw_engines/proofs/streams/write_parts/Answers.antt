use Rattle.std.proofs.Common.{ℕ, List, [], Bor, ◌++◌, ◌+◌, drop, map, get_or, refl, sym, ap, subst, ◌∙◌}
use Rattle.std.specs.List.{concat}
use Rattle.std.proofs.KnownBytes.{Appends-trans}
use Rattle.fw_engines.specs.Streams.{AppendsPart}
use Rattle.fw_engines.proofs.PartLemmas.{one_more_part, place_cut}
use Rattle.fw_engines.proofs.WriteLemmas.{part_after, part_more}
use Rattle.fw_engines.proofs.streams.write_parts.Goals as goal

pub returns-then-not-write_text : goal.returns-then-not-write_text
returns-then-not-write_text g c =
    let d : Bor (List ℕ) = record { ref_ptr = (0, 0); now = [] } in
    let xs = c.args.parts.now in
    let i = c.loop-part.part-index in
    let cut = place_cut xs i d c.loop-part-test.true in
    let so_far = c.loop-part.invariant in
    subst (AppendsPart (g.W.Write.contents c.args.writer.now) (g.W.Write.contents c.write_text.new.writer))
    (ap (λ ys. so_far.0 ++ concat (map (λ p. p.now) ys)) (sym cut) ∙ so_far.1)
    (part_after _ _ _ so_far.0 _ so_far.2 (part_more _ _ (get_or xs i d).now (concat (map (λ p. p.now) (drop (i + 1) xs))) c.if-not-write_text.ensures))

pub loop-part-preserved : goal.loop-part-preserved
loop-part-preserved g c =
    let d : Bor (List ℕ) = record { ref_ptr = (0, 0); now = [] } in
    let xs = c.args.parts.now in
    let i = c.loop-part.part-index in
    let so_far = c.loop-part.invariant in (
      so_far.0 ++ (get_or xs i d).now,
      one_more_part (λ p. p.now) xs i (get_or xs i d) so_far.0 _ _ (place_cut xs i d c.loop-part-test.true) refl so_far.1,
      Appends-trans _ _ _ so_far.0 (get_or xs i d).now so_far.2 c.if-not-write_text.ensures,
    )
