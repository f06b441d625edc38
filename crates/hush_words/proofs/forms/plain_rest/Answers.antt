use Rattle.std.proofs.Common.{sym, ◌∙◌, ap, length, ◌++◌, map}
use Rattle.hush_words.specs.Words.Atom.{Plain}
use Rattle.hush_words.specs.Forms.{is_plain}
use Rattle.hush_words.specs.Parts.{part_atoms}
use Rattle.hush_words.proofs.Runs.{range-rest}
use Rattle.hush_words.proofs.FormLemmas.{otherwise-plain, plain-prefix, not-prefix}
use Rattle.hush_words.proofs.forms.plain_rest.Goals as goal

pub returns-then-starts_with : goal.returns-then-starts_with
returns-then-starts_with c = λ more.
    let bytes = c.of-bytes.result.now in
    let text = c.args.text.now in
    ap (λ l. is_plain text (l ++ more)) (c.in-Some.ensures.plain ∙ ap (λ l. map Plain l) (sym c.of-bytes.ensures))
    ∙ plain-prefix bytes text more (sym c.starts_with.ensures.value ∙ c.if-starts_with.true)
    ∙ ap (λ l. is_plain l more) (sym (range-rest (length bytes) text))

pub returns-else-starts_with : goal.returns-else-starts_with
returns-else-starts_with c = λ more.
    let bytes = c.of-bytes.result.now in
    let text = c.args.text.now in
    ap (λ l. is_plain text (l ++ more)) (c.in-Some.ensures.plain ∙ ap (λ l. map Plain l) (sym c.of-bytes.ensures))
    ∙ not-prefix bytes text more (sym c.starts_with.ensures.value ∙ c.if-starts_with.false)

pub returns-in-None : goal.returns-in-None
returns-in-None c = λ more. otherwise-plain c.args.text.now (part_atoms c.args.source.now c.args.part) more c.in-None.ensures.plain

pub of-bytes-requires : goal.of-bytes-requires
of-bytes-requires c = c.in-Some.ensures.range
