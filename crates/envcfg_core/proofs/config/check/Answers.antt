use Rattle.std.proofs.Common.{None, Some}
use Rattle.envcfg_core.specs.ConfigSteps.{candidate_view}
use Rattle.envcfg_core.proofs.ConfigLemmas.{checked-not_utf8, checked-utf8}
use Rattle.envcfg_core.proofs.config.check.Goals as goal

pub returns-in-Err-clause-refused : goal.returns-in-Err-clause-refused
returns-in-Err-clause-refused c = checked-not_utf8 (candidate_view c.args.candidate) c.in-Err.ensures.cases.0

pub returns-in-Some-clause-read : goal.returns-in-Some-clause-read
returns-in-Some-clause-read c = checked-utf8 (candidate_view c.args.candidate) (Some c.in-Some.size) c.in-Ok.ensures.cases.1 c.in-Some.is

pub returns-in-None-clause-refused : goal.returns-in-None-clause-refused
returns-in-None-clause-refused c = checked-utf8 (candidate_view c.args.candidate) None c.in-Ok.ensures.cases.1 c.in-None.is
