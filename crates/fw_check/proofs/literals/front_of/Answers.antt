use Rattle.std.proofs.Common.{◌++◌, ◌∙◌, ap, subst}
use Rattle.hush_words.specs.Parts.{part_atoms, word_atoms}
use Rattle.hush_words.specs.Ranges.{Fits}
use Rattle.fw_check.specs.Literals.{front_of}
use Rattle.fw_check.proofs.LiteralLemmas.{before, front-on, front-stops}
use Rattle.fw_check.proofs.literals.front_of.Goals as goal

pub literal_part-requires : goal.literal_part-requires
literal_part-requires c = subst (λ l. Fits l c.in-Some.part) c.loop-part.invariant.source c.in-Some.ensures.1

pub loop-part-preserved : goal.loop-part-preserved
loop-part-preserved c =
    let i = c.loop-part.invariant in
    let t = c.in-Some.ensures in
    let rest = c.next_part.new.self.atoms in
    let bytes = c.loop-part.bytes.items in
    record {
      source = t.2 ∙ i.source;
      read = ap (λ xs. before xs (front_of rest)) c.in_ok-extend_from_slice-in-Some-literal_part.ensures.items
          ∙ front-on (word_atoms c.args.text.now c.args.word) c.loop-part.left.atoms (part_atoms c.args.text.now.source c.in-Some.part) rest bytes c.in-Some-literal_part.more.now
          (t.0 ∙ ap (λ l. part_atoms l c.in-Some.part ++ rest) i.source) c.in-Some-literal_part.ensures i.read;
    }

pub returns-in-None : goal.returns-in-None
returns-in-None c =
    let i = c.loop-part.invariant in
    let t = c.in-Some.ensures in
    let rest = c.next_part.new.self.atoms in
    front-stops c.args.text.now.source c.in-Some.part (word_atoms c.args.text.now c.args.word) c.loop-part.left.atoms rest c.loop-part.bytes.items
    (t.0 ∙ ap (λ l. part_atoms l c.in-Some.part ++ rest) i.source) c.in-None.ensures i.read
