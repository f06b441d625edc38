use Rattle.hush_run.proofs.ValueLemmas.{no_value}
use Rattle.hush_run.proofs.values.is_substituted.Goals as goal

pub returns-in_default : goal.returns-in_default
returns-in_default c = no_value c.args.text.now.source c.args.part c.in_default.not-Value c.in_default.not-Status
