use Rattle.std.proofs.Common.{◌++◌, ◌∙◌, Some, ap, sym}
use Rattle.std.specs.Prelude.{option_map}
use Rattle.hush_words.specs.Parts.{part_atoms, word_atoms}
use Rattle.fw_check.specs.Knowing.{joined, text_of}
use Rattle.fw_check.specs.Looking.{known_in}
use Rattle.fw_check.proofs.ConstantLemmas.{text-on, text-stops}
use Rattle.fw_check.proofs.constants.text_of.Goals as goal

pub loop-part-preserved : goal.loop-part-preserved
loop-part-preserved c =
    let i = c.loop-part.invariant in
    let t = c.in-Some.ensures in
    let k = known_in c.args.lookups.now in
    let rest = c.next_part.new.self.atoms in
    let bytes = c.loop-part.bytes.items in
    record {
      source = t.2 ∙ i.source;
      read = ap (λ xs. joined (Some xs) (text_of k rest)) (c.in_ok-extend_from_slice-in-Some-2.ensures.items ∙ ap (λ m. bytes ++ m) c.deref.ensures.value)
          ∙ text-on k c.loop-part.left.atoms (part_atoms c.args.text.now.source c.in-Some.part) rest bytes c.in-Some-2.more.items (text_of k (word_atoms c.args.text.now c.args.word))
          (t.0 ∙ ap (λ l. part_atoms l c.in-Some.part ++ rest) i.source) (ap (option_map (λ v. v.items)) (sym c.in-Some-2.is) ∙ c.in_ok-more.ensures) i.read;
    }

pub returns-in-None : goal.returns-in-None
returns-in-None c =
    let i = c.loop-part.invariant in
    let t = c.in-Some.ensures in
    let k = known_in c.args.lookups.now in
    let rest = c.next_part.new.self.atoms in
    text-stops k c.loop-part.left.atoms (part_atoms c.args.text.now.source c.in-Some.part) rest c.loop-part.bytes.items (text_of k (word_atoms c.args.text.now c.args.word))
    (t.0 ∙ ap (λ l. part_atoms l c.in-Some.part ++ rest) i.source) (ap (option_map (λ v. v.items)) (sym c.in-None.is) ∙ c.in_ok-more.ensures) i.read
