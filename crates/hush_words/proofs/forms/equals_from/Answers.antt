use Rattle.std.proofs.Common.{sym, ◌∙◌, drop}
use Rattle.std.proofs.lemmas.Bool.{not-true, not-false, and_right}
use Rattle.hush_words.specs.Steps.{begins}
use Rattle.hush_words.proofs.NameRuns.{no-name, no-equals, equals-there}
use Rattle.hush_words.proofs.EqualsPlaces.{equals-found}
use Rattle.hush_words.proofs.forms.equals_from.Goals as goal

pub returns-then-not-name-clause-splits : goal.returns-then-not-name-clause-splits
returns-then-not-name-clause-splits c =
    let n = c.name_from-name.ensures.name in
    no-name c.args.source.now c.args.start c.name_from-name.result.at n.2 c.name_from-name.result.begun n.0 n.1 n.3 n.4
    (not-true c.name_from-name.result.begun c.if-not-name.true)

pub returns-then-stands_at-clause-splits : goal.returns-then-stands_at-clause-splits
returns-then-stands_at-clause-splits c =
    let n = c.name_from-name.ensures.name in
    equals-there c.args.source.now c.args.start c.name_from-name.result.at n.2 c.name_from-name.result.begun n.0 n.3 n.4
    (not-false c.name_from-name.result.begun c.if-not-name.false) (sym c.stands_at.ensures ∙ c.if-stands_at.true)

pub returns-else-stands_at-clause-splits : goal.returns-else-stands_at-clause-splits
returns-else-stands_at-clause-splits c =
    let n = c.name_from-name.ensures.name in
    no-equals c.args.source.now c.args.start c.name_from-name.result.at n.2 c.name_from-name.result.begun n.0 n.1 n.3 n.4
    (and_right c.name_from-name.result.begun (begins 61 (drop c.name_from-name.result.at c.args.source.now)) (sym c.stands_at.ensures ∙ c.if-stands_at.false))

pub returns-then-stands_at-clause-first : goal.returns-then-stands_at-clause-first
returns-then-stands_at-clause-first c =
    equals-found c.args.source.now c.args.start c.name_from-name.result.at c.name_from-name.ensures.before (sym c.stands_at.ensures ∙ c.if-stands_at.true)
