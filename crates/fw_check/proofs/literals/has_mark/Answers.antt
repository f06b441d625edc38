use Rattle.std.proofs.Common.{◌++◌, ◌∙◌, ap, sym}
use Rattle.hush_words.specs.Parts.{part_atoms, word_atoms}
use Rattle.fw_check.specs.Literals.{is_mark}
use Rattle.fw_check.proofs.StatusLemmas.{any-found, any-on}
use Rattle.fw_check.proofs.literals.has_mark.Goals as goal

pub loop-part-preserved : goal.loop-part-preserved
loop-part-preserved c =
    let i = c.loop-part.invariant in
    let t = c.in-Some.ensures in
    let source = c.args.text.now.source in
    let rest = c.next_part.new.self.atoms in
    record {
      source = t.2 ∙ i.source;
      read = any-on is_mark (word_atoms c.args.text.now c.args.word) c.loop-part.left.atoms (part_atoms source c.in-Some.part) rest
          (t.0 ∙ ap (λ l. part_atoms l c.in-Some.part ++ rest) i.source) (sym c.if-is_mark.false ∙ c.is_mark.ensures source) i.read;
    }

pub returns-then-is_mark : goal.returns-then-is_mark
returns-then-is_mark c =
    let i = c.loop-part.invariant in
    let t = c.in-Some.ensures in
    let source = c.args.text.now.source in
    let rest = c.next_part.new.self.atoms in
    any-found is_mark (word_atoms c.args.text.now c.args.word) c.loop-part.left.atoms (part_atoms source c.in-Some.part) rest
    (t.0 ∙ ap (λ l. part_atoms l c.in-Some.part ++ rest) i.source) (sym c.if-is_mark.true ∙ c.is_mark.ensures source) i.read
