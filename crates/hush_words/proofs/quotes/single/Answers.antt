use Rattle.std.proofs.Common.{arith, ◌≢◌, length}
use Rattle.hush_words.proofs.QuoteLemmas.{single-closes, single-open}
use Rattle.hush_words.proofs.FaultLemmas.{single-stops}
use Rattle.hush_words.proofs.quotes.single.Goals as goal

pub returns-then-end-source : goal.returns-then-end-source
returns-then-end-source c =
    (single-open c.args.source.now c.args.place c.place_of-end.result c.requires.here c.place_of-end.ensures c.if-end-source.true, single-stops c.args.source.now c.args.place c.requires.here)

pub returns : goal.returns
returns c =
    let run = c.place_of-end.ensures in
    let more : c.place_of-end.result ≢ length c.args.source.now = c.if-end-source.false in (
      omega (arith, run.0),
      omega (arith, run.1),
      single-closes c.args.source.now c.args.place c.place_of-end.result c.requires.here run c.if-end-source.false,
    )
