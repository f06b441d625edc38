use Rattle.envimg_core.specs.Environment.{is_equals}
use Rattle.text_parts.proofs.CutLemmas.{after_first-found, after_first-none}
use Rattle.fw_check.proofs.entry_places.after_equals.Goals as goal

pub returns-in-Some-clause-rest : goal.returns-in-Some-clause-rest
returns-in-Some-clause-rest c = after_first-found is_equals c.args.text.now c.in-Some.at c.in-Some.ensures

pub returns-in-None-clause-rest : goal.returns-in-None-clause-rest
returns-in-None-clause-rest c = after_first-none is_equals c.args.text.now c.in-None.ensures
