use Rattle.std.proofs.Common.{sym, ◌∙◌, ap, is_some}
use Rattle.hush_words.specs.Reading.{piece_at}
use Rattle.hush_words.proofs.PieceLemmas.{nothing-left}
use Rattle.hush_words.proofs.forms.is_piece_at.Goals as goal

pub returns-in-None : goal.returns-in-None
returns-in-None c = sym (ap (λ o. is_some o) (ap piece_at c.in-None.ensures ∙ nothing-left))
