use Rattle.std.proofs.Common.{sym, ◌∙◌, ap, drop, ◌+◌, arith}
use Rattle.hush_words.specs.Words.{ends_word, next}
use Rattle.hush_words.specs.Reading.{piece_at}
use Rattle.hush_words.proofs.Lexemes.{end-no_piece}
use Rattle.hush_words.proofs.PieceLemmas.{piece-goes}
use Rattle.hush_words.proofs.WordLemmas.{plain-read, special-by}
use Rattle.hush_words.proofs.words.special_pieces_from.Goals as goal

pub returns-then-ends_word-clause-reads : goal.returns-then-ends_word-clause-reads
returns-then-ends_word-clause-reads c =
    let e = sym c.ends_word.ensures ∙ c.if-ends_word.true in
    (ap piece_at c.requires.here.1 ∙ end-no_piece c.args.first (drop (c.args.at + 1) c.args.source.now) e, ap (next ends_word) c.requires.here.1 ∙ e)

pub returns-clause-reads : goal.returns-clause-reads
returns-clause-reads c =
    let source = c.args.source.now in
    let r = c.in_ok-end.ensures in
    let run = c.run_end.ensures in
    let one = piece-goes (drop c.args.at source) (drop c.in_ok-end.end source) r.2 in
    let plain = plain-read source c.in_ok-end.end c.run_end.result run in
    (omega (arith, r.0, run.0), run.1, one.0, plain.0 ∙ one.1)

pub returns-clause-plain : goal.returns-clause-plain
returns-clause-plain c = (plain-read c.args.source.now c.in_ok-end.end c.run_end.result c.run_end.ensures).1

pub piece-requires-clause-special : goal.piece-requires-clause-special
piece-requires-clause-special c = special-by c.args.first c.requires.behind (sym c.ends_word.ensures ∙ c.if-ends_word.false)
