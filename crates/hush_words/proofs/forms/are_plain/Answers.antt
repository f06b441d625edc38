use Rattle.std.proofs.Common.{sym, ◌∙◌, ap}
use Rattle.hush_words.specs.Forms.{is_plain}
use Rattle.hush_words.proofs.FormLemmas.{nothing-plain, fits-in, plain-on, plain-off}
use Rattle.hush_words.proofs.forms.are_plain.Goals as goal

pub loop-part-preserved : goal.loop-part-preserved
loop-part-preserved c =
    let i = c.loop-part.invariant in
    let t = c.in-Some.ensures in (
      t.2 ∙ i.0,
      plain-on c.loop-part.left.source c.args.source.now c.in-Some.part c.loop-part.left.atoms c.next_part.new.self.atoms c.loop-part.rest.now
          c.in-Some-plain_rest.behind.now _ i.0 t.0 c.in-Some-plain_rest.ensures i.1,
    )

pub returns-in-None : goal.returns-in-None
returns-in-None c =
    let i = c.loop-part.invariant in
    let t = c.in-Some.ensures in
    plain-off c.loop-part.left.source c.args.source.now c.in-Some.part c.loop-part.left.atoms c.next_part.new.self.atoms c.loop-part.rest.now _ i.0 t.0
    c.in-None.ensures i.1

pub returns : goal.returns
returns c =
    c.is_empty.ensures ∙ sym (nothing-plain c.loop-part.rest.now)
    ∙ ap (is_plain c.loop-part.rest.now) (sym c.in_default.ensures) ∙ c.loop-part.invariant.1

pub plain_rest-requires : goal.plain_rest-requires
plain_rest-requires c = fits-in c.loop-part.left.source c.args.source.now c.in-Some.part c.loop-part.invariant.0 c.in-Some.ensures.1
