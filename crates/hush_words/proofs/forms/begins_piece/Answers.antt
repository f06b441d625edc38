use Rattle.std.proofs.Common.{sym, ◌∙◌, ap, drop, ◌+◌, is_some}
use Rattle.hush_words.specs.Reading.{piece_at}
use Rattle.hush_words.proofs.Lexemes.{end-no_piece}
use Rattle.hush_words.proofs.Pieces.{piece-bare}
use Rattle.hush_words.proofs.WordLemmas.{bare-by}
use Rattle.hush_words.proofs.forms.begins_piece.Goals as goal

pub returns-then-ends_word : goal.returns-then-ends_word
returns-then-ends_word c =
    let e = sym c.ends_word.ensures ∙ c.if-ends_word.true in
    sym (ap (λ o. is_some o) (ap piece_at c.requires.here.1 ∙ end-no_piece c.args.first (drop (c.args.at + 1) c.args.source.now) e))

pub returns-else-is_special : goal.returns-else-is_special
returns-else-is_special c =
    let bare = bare-by c.args.first (sym c.ends_word.ensures ∙ c.if-ends_word.false) (sym c.is_special.ensures ∙ c.if-is_special.false) in
    sym (ap (λ o. is_some o) (ap piece_at c.requires.here.1 ∙ piece-bare c.args.first (drop (c.args.at + 1) c.args.source.now) bare))
