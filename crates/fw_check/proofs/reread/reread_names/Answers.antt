use Rattle.std.proofs.Common.{◌++◌, ◌∙◌, ap, map, subst}
use Rattle.hush_words.specs.Parts.{part_atoms, word_atoms}
use Rattle.hush_words.specs.Ranges.{Fits}
use Rattle.fw_check.specs.Looking.{known_in}
use Rattle.fw_check.proofs.RereadLemmas.{reread-on}
use Rattle.fw_check.proofs.reread.reread_names.Goals as goal

pub push_name-requires : goal.push_name-requires
push_name-requires c = subst (λ l. Fits l c.in-Some.part) c.loop-part.invariant.source c.in-Some.ensures.1

pub loop-part-preserved : goal.loop-part-preserved
loop-part-preserved c =
    let i = c.loop-part.invariant in
    let t = c.in-Some.ensures in
    let rest = c.next_part.new.self.atoms in
    record {
      source = t.2 ∙ i.source;
      read = reread-on (known_in c.args.lookups.now) c.args.cut (word_atoms c.args.text.now c.args.word) c.loop-part.left.atoms (part_atoms c.args.text.now.source c.in-Some.part) rest
          (map (λ n. n.now) c.loop-part.names.items) (map (λ n. n.now) c.push_name.new.names.items)
          (t.0 ∙ ap (λ l. part_atoms l c.in-Some.part ++ rest) i.source) c.in_ok-push_name.ensures i.read;
    }
