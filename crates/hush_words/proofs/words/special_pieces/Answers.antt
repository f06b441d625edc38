use Rattle.std.proofs.Common.{◌∙◌, ap, sym, not}
use Rattle.std.proofs.lemmas.Bool.{not-true}
use Rattle.hush_words.specs.Words.{ends_word, is_bare, next}
use Rattle.hush_words.specs.Reading.{piece_at}
use Rattle.hush_words.proofs.PieceLemmas.{nothing-left}
use Rattle.hush_words.proofs.words.special_pieces.Goals as goal

pub returns-in-None-clause-reads : goal.returns-in-None-clause-reads
returns-in-None-clause-reads c = (ap piece_at c.in-None.ensures ∙ nothing-left, ap (next ends_word) c.in-None.ensures)

pub special_pieces_from-requires-clause-behind : goal.special_pieces_from-requires-clause-behind
special_pieces_from-requires-clause-behind c =
    not-true (is_bare c.in-Some.first) (sym (ap (next (λ b. not (is_bare b))) c.in-Some.ensures.1) ∙ c.requires.behind)
