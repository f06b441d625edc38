use Rattle.envvars_store.specs.Laying.{LiesIn}
use Rattle.envvars_store.proofs.FindLemmas.{All_rest}
use Rattle.envvars_store.proofs.iterators.IterIterator.next.Goals as goal

pub invariant_of-self-2 : goal.invariant_of-self-2
invariant_of-self-2 c = All_rest (LiesIn c.self.inside.area.now) _ _ _ c.in_ok-variable.ensures c.self.invariant
