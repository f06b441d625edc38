use Rattle.std.proofs.Common.{sym, ◌∙◌}
use Rattle.fw_arguments.specs.Calls.{defaults_view}
use Rattle.fw_files.proofs.OpeningLemmas.{unplain_stopped, unplain_taken}
use Rattle.fw_files.proofs.opening.open.Goals as goal

pub returns-else-is_plain-clause-opened : goal.returns-else-is_plain-clause-opened
returns-else-is_plain-clause-opened g c = unplain_taken _ c.open_with.result c.args.source.now (defaults_view c.args.asked.now) c.args.spares (sym c.is_plain.ensures ∙ c.if-is_plain.false) c.open_with.ensures.opened

pub returns-else-is_plain-clause-stopped : goal.returns-else-is_plain-clause-stopped
returns-else-is_plain-clause-stopped g c = unplain_stopped c.open_with.result c.args.source.now (defaults_view c.args.asked.now) c.args.spares (sym c.is_plain.ensures ∙ c.if-is_plain.false) c.open_with.ensures.stopped
