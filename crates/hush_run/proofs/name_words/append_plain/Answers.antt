use Rattle.std.proofs.Common.{◌++◌, ◌∙◌, ap, subst}
use Rattle.hush_words.specs.Parts.{part_atoms}
use Rattle.hush_words.specs.Ranges.{Fits}
use Rattle.hush_run.proofs.NameLemmas.{plain_on}
use Rattle.hush_run.proofs.name_words.append_plain.Goals as goal

pub loop-part-preserved : goal.loop-part-preserved
loop-part-preserved c =
    let i = c.loop-part.invariant in
    let t = c.in-Some.ensures in
    let rest = c.next_part.new.self.atoms in
    record {
      source = t.2 ∙ i.source;
      read = plain_on c.args.text.now.source c.loop-part.left.atoms rest c.in-Some.part c.plain_in.result.now c.loop-part.name.items c.extend_from_slice.new.self.items _ (t.0 ∙ ap (λ l. part_atoms l c.in-Some.part ++ rest) i.source) c.plain_in.ensures c.in_ok-extend_from_slice.ensures.items i.read;
    }

pub plain_in-requires : goal.plain_in-requires
plain_in-requires c = subst (λ l. Fits l c.in-Some.part) c.loop-part.invariant.source c.in-Some.ensures.1
