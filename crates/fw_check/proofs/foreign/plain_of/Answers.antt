use Rattle.std.proofs.Common.{◌++◌, ◌∙◌, ap, subst}
use Rattle.hush_words.specs.Parts.{part_atoms, word_atoms}
use Rattle.hush_words.specs.Ranges.{Fits}
use Rattle.fw_check.specs.Foreign.{plain_of}
use Rattle.fw_check.proofs.ForeignLemmas.{plain-on}
use Rattle.fw_check.proofs.foreign.plain_of.Goals as goal

pub plain_part-requires : goal.plain_part-requires
plain_part-requires c = subst (λ l. Fits l c.in-Some.part) c.loop-part.invariant.source c.in-Some.ensures.1

pub loop-part-preserved : goal.loop-part-preserved
loop-part-preserved c =
    let i = c.loop-part.invariant in
    let t = c.in-Some.ensures in
    let rest = c.next_part.new.self.atoms in
    let bytes = c.loop-part.plain.items in
    record {
      source = t.2 ∙ i.source;
      read = ap (λ xs. xs ++ plain_of rest) c.in_ok-extend_from_slice.ensures.items
          ∙ plain-on (word_atoms c.args.text.now c.args.word) c.loop-part.left.atoms (part_atoms c.args.text.now.source c.in-Some.part) rest bytes c.plain_part.result.now
          (t.0 ∙ ap (λ l. part_atoms l c.in-Some.part ++ rest) i.source) c.plain_part.ensures i.read;
    }
