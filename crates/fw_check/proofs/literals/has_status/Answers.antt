use Rattle.std.proofs.Common.{◌++◌, ◌∙◌, ap, sym}
use Rattle.hush_words.specs.Parts.{part_atoms, word_atoms}
use Rattle.fw_check.specs.Literals.{is_shown}
use Rattle.fw_check.proofs.StatusLemmas.{any-found, any-on}
use Rattle.fw_check.proofs.literals.has_status.Goals as goal

pub loop-part-preserved : goal.loop-part-preserved
loop-part-preserved c =
    let i = c.loop-part.invariant in
    let t = c.in-Some.ensures in
    let source = c.args.text.now.source in
    let rest = c.next_part.new.self.atoms in
    record {
      source = t.2 ∙ i.source;
      read = any-on is_shown (word_atoms c.args.text.now c.args.word) c.loop-part.left.atoms (part_atoms source c.in-Some.part) rest
          (t.0 ∙ ap (λ l. part_atoms l c.in-Some.part ++ rest) i.source) (sym c.if-is_status.false ∙ c.is_status.ensures source) i.read;
    }

pub returns-then-is_status : goal.returns-then-is_status
returns-then-is_status c =
    let i = c.loop-part.invariant in
    let t = c.in-Some.ensures in
    let source = c.args.text.now.source in
    let rest = c.next_part.new.self.atoms in
    any-found is_shown (word_atoms c.args.text.now c.args.word) c.loop-part.left.atoms (part_atoms source c.in-Some.part) rest
    (t.0 ∙ ap (λ l. part_atoms l c.in-Some.part ++ rest) i.source) (sym c.if-is_status.true ∙ c.is_status.ensures source) i.read
