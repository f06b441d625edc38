use Rattle.std.proofs.Common.{◌∙◌, ap, take, drop, is_some}
use Rattle.hush_words.specs.Forms.{name_of}
use Rattle.hush_words.specs.Reading.{piece_atoms_left}
use Rattle.hush_words.proofs.RangeLemmas.{front-drop}
use Rattle.hush_words.proofs.parts.Word.is_name.Goals as goal

pub returns : goal.returns
returns c =
    let w = c.args.self in
    let front = c.front.ensures ∙ ap (take w.end) c.source.ensures.bytes in
    c.is_name_at.ensures
    ∙ ap (λ l. is_some (name_of (piece_atoms_left l))) (ap (drop w.start) front ∙ front-drop c.args.text.now.source w.start w.end)
