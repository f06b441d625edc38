use Rattle.hush_words.proofs.Runs.{place-some, place-none}
use Rattle.hush_words.proofs.classes.place_of.Goals as goal

pub returns-in-Some : goal.returns-in-Some
returns-in-Some c = place-some _ _ _ _ c.requires c.in-Some.ensures

pub returns-in-None : goal.returns-in-None
returns-in-None c = place-none _ _ _ c.requires c.in-None.ensures
