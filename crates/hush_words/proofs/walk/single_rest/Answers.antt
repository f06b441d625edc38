use Rattle.std.proofs.Common.{arith, sym, ap, ◌∙◌, ◌++◌, ◌+◌, drop}
use Rattle.hush_words.specs.Reading.{piece_atoms_left}
use Rattle.hush_words.proofs.QuoteLemmas.{single-left, single-within}
use Rattle.hush_words.proofs.walk.single_rest.Goals as goal

pub returns : goal.returns
returns c =
    let source = c.args.source.now in
    let run = c.place_of-end.ensures in
    let left = single-left source c.args.at c.place_of-end.result run c.requires.closes in
    rw c.outside.ensures (
      omega (arith, run.0),
      omega (arith, left.0),
      tt,
      c.quoted_part.ensures.fits source run.1,
      left.1 ∙ ap (λ l. l ++ piece_atoms_left (drop (c.place_of-end.result + 1) source)) (sym (c.quoted_part.ensures.atoms source)),
    )

pub place_of-end-requires : goal.place_of-end-requires
place_of-end-requires c = omega (arith, single-within c.args.source.now c.args.at c.requires.closes)
