use Rattle.std.proofs.Common.{arith, sym, ◌∙◌, ap, subst, ◌++◌, ◌+◌, drop}
use Rattle.hush_words.specs.Ranges.{FitsSome}
use Rattle.hush_words.specs.Reading.{piece_atoms_left}
use Rattle.hush_words.specs.Steps.{optional_atoms}
use Rattle.hush_words.proofs.WordLemmas.{escaped-left, joined-left}
use Rattle.hush_words.proofs.walk.backslash_before.Goals as goal
use Rattle.hush_words.proofs.walk.backslash_before.Goals.{then-next-eq10, else-next-eq10}

pub returns : goal.returns
returns c =
    let source = c.args.source.now in
    let at = c.args.at in
    let next = c.args.next in
    let rest = piece_atoms_left (drop (at + 2) source) in
    rw c.outside.ensures (
      omega arith,
      omega (arith, c.requires.next.0),
      tt,
      elim c.if-next-eq10.branch [
        | then-next-eq10 w ↦ subst (FitsSome source) (sym w.result-is) tt
        | else-next-eq10 w ↦ subst (FitsSome source) (sym w.result-is) (w.byte_part.ensures.fits source next c.requires.next)
      ],
      elim c.if-next-eq10.branch [
        | then-next-eq10 w ↦ joined-left source at next c.requires.backslash c.requires.next w.if-next-eq10.true
            ∙ ap (λ p. optional_atoms source p ++ rest) (sym w.result-is)
        | else-next-eq10 w ↦ escaped-left source at next c.requires.backslash c.requires.next w.if-next-eq10.false
            ∙ ap (λ l. l ++ rest) (sym (w.byte_part.ensures.reads.1 source next c.requires.next))
            ∙ ap (λ p. optional_atoms source p ++ rest) (sym w.result-is)
      ],
    )
