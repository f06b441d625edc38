use Rattle.std.proofs.Common.{map, ap, ◌∙◌}
use Rattle.envimg_core.specs.Environment.{entry_text}
use Rattle.envvars_store.proofs.MapLemmas.{given_entries}
use Rattle.envvars_store.proofs.PositionLemmas.{formed_entries, listed_lent}
use Rattle.envvars_store.proofs.store.Variables.lines.Goals as goal

pub returns-clause-entries : goal.returns-clause-entries
returns-clause-entries c = c.new.ensures ∙ ap (map entry_text) (listed_lent _ _ _ _ c.deref.ensures.value c.deref-2.ensures.value ∙ given_entries _ _ c.self.invariant.sorted c.self.view_is)

pub returns-clause-formed : goal.returns-clause-formed
returns-clause-formed c = formed_entries c.self.inside.area.items c.self.inside.runs.items c.args.self.now c.self.invariant c.self.view_is
