use Rattle.std.proofs.Common.{arith, sym, ◌∙◌}
use Rattle.hush_words.proofs.TextLemmas.{blank-there, newline-there, semicolon-there, comment-there, joined-begins, joined-line-there, word_inside, no-operator}
use Rattle.hush_words.proofs.reading.lexeme.Goals as goal

pub returns-then-is_blank-clause-reads : goal.returns-then-is_blank-clause-reads
returns-then-is_blank-clause-reads c =
    (omega arith, omega (arith, c.requires.here.0), blank-there c.args.source.now c.args.at c.args.first c.requires.here (sym c.is_blank.ensures ∙ c.if-is_blank.true))

pub returns-then-first-eq10-clause-reads : goal.returns-then-first-eq10-clause-reads
returns-then-first-eq10-clause-reads c =
    (omega arith, omega (arith, c.requires.here.0), newline-there c.args.source.now c.args.at c.args.first c.requires.here c.if-first-eq10.true)

pub returns-then-first-eq59-clause-reads : goal.returns-then-first-eq59-clause-reads
returns-then-first-eq59-clause-reads c =
    (omega arith, omega (arith, c.requires.here.0), semicolon-there c.args.source.now c.args.at c.args.first c.requires.here c.if-first-eq59.true)

pub returns-then-first-eq35-clause-reads : goal.returns-then-first-eq35-clause-reads
returns-then-first-eq35-clause-reads c = (
  omega (arith, c.place_of.ensures.0),
  c.place_of.ensures.1,
  comment-there c.args.source.now c.args.at c.args.first c.place_of.result c.requires.here c.if-first-eq35.true c.place_of.ensures,
)

pub returns-then-is_joined_line-clause-reads : goal.returns-then-is_joined_line-clause-reads
returns-then-is_joined_line-clause-reads c =
    let both = joined-begins c.args.source.now c.args.at (sym c.is_joined_line.ensures ∙ c.if-is_joined_line.true) in
    (omega arith, omega (arith, both.1.0), joined-line-there c.args.source.now c.args.at both.0 both.1)

pub word-requires-clause-inside : goal.word-requires-clause-inside
word-requires-clause-inside c =
    let other = no-operator c.args.first (sym c.begins_operator.ensures ∙ c.if-begins_operator.false) in
    word_inside c.args.first (sym c.is_blank.ensures ∙ c.if-is_blank.false) c.if-first-eq10.false c.if-first-eq59.false other.0 other.1

pub operator-requires-clause-operator : goal.operator-requires-clause-operator
operator-requires-clause-operator c = sym c.begins_operator.ensures ∙ c.if-begins_operator.true
