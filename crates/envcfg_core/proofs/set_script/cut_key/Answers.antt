use Rattle.envcfg_core.specs.SetScript.{ends_key}
use Rattle.text_parts.proofs.CutLemmas.{before_first-found, before_first-none, after_first-found, after_first-none}
use Rattle.envcfg_core.proofs.set_script.cut_key.Goals as goal

pub returns-in-Some-clause-key : goal.returns-in-Some-clause-key
returns-in-Some-clause-key c = before_first-found ends_key c.args.line.now c.in-Some.at c.in-Some.ensures

pub returns-in-Some-clause-value : goal.returns-in-Some-clause-value
returns-in-Some-clause-value c = after_first-found ends_key c.args.line.now c.in-Some.at c.in-Some.ensures

pub returns-in-None-clause-key : goal.returns-in-None-clause-key
returns-in-None-clause-key c = before_first-none ends_key c.args.line.now c.in-None.ensures

pub returns-in-None-clause-value : goal.returns-in-None-clause-value
returns-in-None-clause-value c = after_first-none ends_key c.args.line.now c.in-None.ensures
