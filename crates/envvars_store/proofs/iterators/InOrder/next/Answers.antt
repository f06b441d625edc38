use Rattle.envvars_store.specs.Runs.{IsFilled}
use Rattle.envvars_store.proofs.FindLemmas.{All_rest}
use Rattle.envvars_store.proofs.iterators.InOrder.next.Goals as goal

pub invariant_of-self-in-None : goal.invariant_of-self-in-None
invariant_of-self-in-None c =
    All_rest IsFilled c.self.inside.runs.now c.in_ok-run-in-None.runs.now _ c.in_ok-run-in-None.ensures.cases.0 c.self.invariant
