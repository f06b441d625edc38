use Rattle.std.specs.Prelude.{Some}
use Rattle.std.proofs.Common.{arith, drop, subst, sym}
use Rattle.hush_words.specs.declared.reads.Inside.TheVariants as inside
use Rattle.hush_words.specs.declared.reads.PlaceRead.{PlaceRead}
use Rattle.hush_words.specs.Steps.{Steps, place_in}
use Rattle.hush_words.proofs.PieceLemmas.{piece-none}
use Rattle.hush_words.proofs.QuoteLemmas.{single-opens}
use Rattle.hush_words.proofs.walk.single_opens.Goals as goal

pub returns-in-Ok : goal.returns-in-Ok
returns-in-Ok c =
    let opens = single-opens c.args.source.now c.args.at _ c.requires.here c.in-Ok.ensures.2 in
    subst (λ (r : PlaceRead). Steps c.args.source.now (place_in inside.Nothing c.args.at) (Some r)) (sym c.opened.ensures)
    (omega arith, omega (arith, c.requires.here.0), opens.0, tt, opens.1)

pub returns-in-Err : goal.returns-in-Err
returns-in-Err c = (piece-none (drop c.args.at c.args.source.now) c.in-Err.ensures.0).0
