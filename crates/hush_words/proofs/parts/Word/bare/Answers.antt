use Rattle.std.proofs.Common.{sym, ◌∙◌, ap}
use Rattle.hush_words.specs.Parts.{range_bytes}
use Rattle.hush_words.specs.Reading.{piece_atoms_left}
use Rattle.hush_words.proofs.PieceLemmas.{bare-read}
use Rattle.hush_words.proofs.parts.Word.bare.Goals as goal

pub returns-then-are_bare-clause-bytes : goal.returns-then-are_bare-clause-bytes
returns-then-are_bare-clause-bytes c =
    let w = c.args.self in
    let written = c.written_in-bytes.ensures ∙ ap (λ source. range_bytes source w.start w.end) c.source.ensures.bytes in
    ap piece_atoms_left (sym written) ∙ bare-read c.written_in-bytes.result.now (sym c.are_bare.ensures ∙ c.if-are_bare.true)
