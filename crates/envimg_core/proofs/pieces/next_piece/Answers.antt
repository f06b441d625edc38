use Rattle.std.proofs.Common.{ℕ, ap, ◌∙◌, subst, arith, Option, Some, ◌<◌}
use Rattle.memchr.specs.Find.{IsFirstByte}
use Rattle.envimg_core.specs.Environment.{is_zero}
use Rattle.envimg_core.proofs.EntryLemmas.{no_entries, entries_ended, piece_ahead}
use Rattle.envimg_core.proofs.pieces.next_piece.Goals as goal

pub returns-in-None : goal.returns-in-None
returns-in-None c = no_entries c.args.area.now c.in-None.ensures

pub returns-in-Some-eq0 : goal.returns-in-Some-eq0
returns-in-Some-eq0 c =
    let P : Option ℕ → Type 0 = IsFirstByte is_zero c.args.area.now in
    entries_ended c.args.area.now (subst P (c.in-Some-eq0.is ∙ ap Some c.in-Some-eq0.field-0-test) c.memchr.ensures)

pub returns-in-Some : goal.returns-in-Some
returns-in-Some c =
    let P : Option ℕ → Type 0 = IsFirstByte is_zero c.args.area.now in
    let past : 0 < c.in-Some.end = omega (arith, c.in-Some.end-test.1) in
    piece_ahead c.args.area.now c.in-Some.end past (subst P c.in-Some.is c.memchr.ensures)
