use Rattle.hush_run.specs.Meaning.{chains, start}
use Rattle.hush_run.proofs.Counts.{turns-again, chains-count, start-counts}
use Rattle.hush_run.proofs.laws.loops_unroll.Goals as goal

pub returns : goal.returns
returns c rules levels wanted c' d last s le =
    let begin = start rules levels in
    turns-again rules wanted (chains rules begin c') (chains rules begin d) last (chains-count rules begin (start-counts rules levels) c') (chains-count rules begin (start-counts rules levels) d) s le
