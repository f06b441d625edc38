use Rattle.std.proofs.Common.{ap, ◌∙◌}
use Rattle.std.specs.Prelude.{option_map}
use Rattle.env_source.specs.Reading.{definition_view, so_far, variables_view}
use Rattle.env_source.proofs.TableLemmas.{lookup-variables, remove-variables}
use Rattle.env_source.proofs.reading.taken_from.Goals as goal

pub returns-in-Some-clause-value : goal.returns-in-Some-clause-value
returns-in-Some-clause-value c = ap (λ o. so_far (option_map definition_view o)) c.in-Some.ensures.value ∙ ap so_far (lookup-variables c.args.name.now c.args.variables.now.entries)

pub returns-in-Some-clause-left : goal.returns-in-Some-clause-left
returns-in-Some-clause-left c = ap variables_view c.in-Some.ensures.entries ∙ remove-variables c.args.name.now c.args.variables.now.entries

pub returns-in-None-clause-value : goal.returns-in-None-clause-value
returns-in-None-clause-value c =
    c.new.ensures.items ∙ ap (λ o. so_far (option_map definition_view o)) c.in-None.ensures.value ∙ ap so_far (lookup-variables c.args.name.now c.args.variables.now.entries)

pub returns-in-None-clause-left : goal.returns-in-None-clause-left
returns-in-None-clause-left c = ap variables_view c.in-None.ensures.entries ∙ remove-variables c.args.name.now c.args.variables.now.entries
