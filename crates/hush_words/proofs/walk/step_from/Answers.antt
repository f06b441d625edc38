use Rattle.std.proofs.Common.{sym, ◌∙◌, ap, drop, ◌+◌}
use Rattle.std.specs.List.{list_all}
use Rattle.hush_words.specs.Words.{is_bare}
use Rattle.hush_words.specs.Reading.{piece_at}
use Rattle.hush_words.proofs.Fronts.{front-all}
use Rattle.hush_words.proofs.Inners.{run-takes}
use Rattle.hush_words.proofs.Lexemes.{end-no_piece}
use Rattle.hush_words.proofs.PieceLemmas.{piece-none, run-read}
use Rattle.hush_words.proofs.WordLemmas.{special-by}
use Rattle.hush_words.proofs.walk.step_from.Goals as goal

pub returns-then-is_bare : goal.returns-then-is_bare
returns-then-is_bare c =
    let source = c.args.source.now in
    let end = c.run_end-end.result in
    let run = c.run_end-end.ensures in
    let goes = run-takes is_bare source c.args.at end c.args.first c.requires.here (sym c.is_bare.ensures ∙ c.if-is_bare.true) run in
    let all = ap (list_all is_bare) run.2 ∙ front-all is_bare (drop c.args.at source) in
    rw (c.new.ensures, c.outside.ensures) (goes, run.1, tt, (run.0, run.1), (run-read source c.args.at end run.0 all).0)

pub returns-then-ends_word : goal.returns-then-ends_word
returns-then-ends_word c =
    (piece-none (drop c.args.at c.args.source.now)
    (ap piece_at c.requires.here.1 ∙ end-no_piece c.args.first (drop (c.args.at + 1) c.args.source.now) (sym c.ends_word.ensures ∙ c.if-ends_word.true))).0

pub special-requires-clause-special : goal.special-requires-clause-special
special-requires-clause-special c =
    special-by c.args.first (sym c.is_bare.ensures ∙ c.if-is_bare.false) (sym c.ends_word.ensures ∙ c.if-ends_word.false)
