use Rattle.hush_words.proofs.NameRuns.{name-told-by}
use Rattle.hush_words.proofs.forms.is_name_at.Goals as goal

pub returns-then-is_piece_at : goal.returns-then-is_piece_at
returns-then-is_piece_at c =
    let n = c.name_from-name.ensures.name in
    (name-told-by c.args.source.now c.args.start c.name_from-name.result.at n.2 c.name_from-name.result.begun c.is_piece_at.result n.0 n.1 n.3 n.4 c.is_piece_at.ensures).0
    c.if-is_piece_at.true

pub returns-else-is_piece_at : goal.returns-else-is_piece_at
returns-else-is_piece_at c =
    let n = c.name_from-name.ensures.name in
    (name-told-by c.args.source.now c.args.start c.name_from-name.result.at n.2 c.name_from-name.result.begun c.is_piece_at.result n.0 n.1 n.3 n.4 c.is_piece_at.ensures).1
    c.if-is_piece_at.false
