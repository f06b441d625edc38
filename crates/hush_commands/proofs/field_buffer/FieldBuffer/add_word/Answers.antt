use Rattle.std.proofs.Common.{rules, ◌≡◌, ◌++◌, ◌∙◌, [], subst, ap, Ok, Err}
use Rattle.hush_words.specs.Parts.{part_atoms, word_atoms}
use Rattle.hush_words.specs.Ranges.{Fits}
use Rattle.hush_commands.specs.Expansion.{items_of}
use Rattle.hush_commands.specs.Scopes.{known}
use Rattle.hush_commands.specs.Buffers.{AddsItems, kept}
use Rattle.hush_commands.proofs.ItemLemmas.{part_items, next-part, no-part, adds-then, adds-nothing, part-refused}
use Rattle.hush_commands.proofs.field_buffer.FieldBuffer.add_word.Goals as goal

pub loop-part-init : goal.loop-part-init
loop-part-init c =
    let k = known c.args.scope.now in (
      c.parts-parts.ensures.source,
      [],
      adds-nothing c.args.limit c.args.self.now,
      ap (λ atoms. kept c.args.uncut (items_of k atoms)) c.parts-parts.ensures.atoms,
    )

pub loop-part-preserved : goal.loop-part-preserved
loop-part-preserved c =
    let k = known c.args.scope.now in
    let source = c.args.scope.now.text.now.source in
    let i = c.loop-part.invariant in
    let t = c.in-Some.ensures in
    let p = c.in-Some.part in
    let atoms = t.0 ∙ ap (λ l. part_atoms l p ++ c.next_part.new.self.atoms) i.0 in (
      t.2 ∙ i.0,
      i.1 ++ part_items c.args.uncut k source p,
      adds-then i.1 (part_items c.args.uncut k source p) c.args.limit c.loop-part.left c.args.self.now c.loop-part.self c.add_part.new.self (Ok c.in_ok-left.left) i.2 c.in_ok-left.ensures,
      next-part c.args.uncut k source p c.loop-part.parts.atoms c.next_part.new.self.atoms i.1 (kept c.args.uncut (items_of k (word_atoms c.args.scope.now.text.now c.args.word))) atoms i.3,
    )

pub returns-in_err-left : goal.returns-in_err-left
returns-in_err-left c =
    let k = known c.args.scope.now in
    let source = c.args.scope.now.text.now.source in
    let i = c.loop-part.invariant in
    let t = c.in-Some.ensures in
    let p = c.in-Some.part in
    let whole = kept c.args.uncut (items_of k (word_atoms c.args.scope.now.text.now c.args.word)) in
    let atoms = t.0 ∙ ap (λ l. part_atoms l p ++ c.next_part.new.self.atoms) i.0 in
    let same : c.from_residual.result ≡ Err c.in_err-left.field-0.0 = search rules in
    rw same (part-refused i.1 (part_items c.args.uncut k source p) (kept c.args.uncut (items_of k c.next_part.new.self.atoms)) whole c.args.limit c.loop-part.left c.args.self.now c.loop-part.self c.add_part.new.self c.in_err-left.field-0.0
    i.2 c.in_err-left.ensures (next-part c.args.uncut k source p c.loop-part.parts.atoms c.next_part.new.self.atoms i.1 whole atoms i.3))

pub returns : goal.returns
returns c =
    let k = known c.args.scope.now in
    let i = c.loop-part.invariant in
    let whole = kept c.args.uncut (items_of k (word_atoms c.args.scope.now.text.now c.args.word)) in
    subst (λ is. AddsItems is c.args.limit c.args.self.now c.loop-part.self (Ok c.loop-part.left))
    (no-part c.args.uncut k c.loop-part.parts.atoms i.1 whole c.in_default.ensures i.3) i.2

pub add_part-requires : goal.add_part-requires
add_part-requires c = subst (λ l. Fits l c.in-Some.part) c.loop-part.invariant.0 c.in-Some.ensures.1
