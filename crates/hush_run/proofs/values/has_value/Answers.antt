use Rattle.std.proofs.Common.{◌++◌, ◌∙◌, ap, subst}
use Rattle.hush_words.specs.Parts.{part_atoms}
use Rattle.hush_words.specs.Ranges.{Fits}
use Rattle.hush_run.proofs.ValueLemmas.{found, passed}
use Rattle.hush_run.proofs.values.has_value.Goals as goal

pub is_substituted-requires : goal.is_substituted-requires
is_substituted-requires c = subst (λ l. Fits l c.in-Some.part) c.loop-part.invariant.source c.in-Some.ensures.1

pub returns-then-is_substituted : goal.returns-then-is_substituted
returns-then-is_substituted c =
    let i = c.loop-part.invariant in
    let t = c.in-Some.ensures in
    let rest = c.next_part.new.self.atoms in
    found c.args.text.now.source c.loop-part.parts.atoms rest c.in-Some.part (t.0 ∙ ap (λ l. part_atoms l c.in-Some.part ++ rest) i.source) c.if-is_substituted.ensures ∙ i.left

pub loop-part-preserved : goal.loop-part-preserved
loop-part-preserved c =
    let i = c.loop-part.invariant in
    let t = c.in-Some.ensures in
    let rest = c.next_part.new.self.atoms in
    record {
      source = t.2 ∙ i.source;
      left = passed c.args.text.now.source c.loop-part.parts.atoms rest c.in-Some.part (t.0 ∙ ap (λ l. part_atoms l c.in-Some.part ++ rest) i.source) c.if-is_substituted.ensures ∙ i.left;
    }
