use Rattle.std.proofs.Common.{ap, sym, refl, ◌∙◌, Some}
use Rattle.envvars_store.proofs.PositionLemmas.{position_read, position_within, position_placed, got, got_nothing, got_formed}
use Rattle.envvars_store.proofs.store.value_among.Goals as goal

pub index-variable-requires : goal.index-variable-requires
index-variable-requires c = position_within c.args.name.now c.args.area.now c.args.runs.now c.in-Ok.at c.index-runs-at.result c.in-Ok.ensures c.index-runs-at.is

pub value-requires : goal.value-requires
value-requires c =
    let x = position_read _ _ c.args.runs.now c.in-Ok.at c.index-runs-at.result c.index-variable.result.now c.in-Ok.ensures c.index-runs-at.is c.index-variable.ensures in
    position_placed _ _ c.args.runs.now c.in-Ok.at c.index-variable.result.now c.requires c.in-Ok.ensures x

pub returns-in-Ok-clause-value : goal.returns-in-Ok-clause-value
returns-in-Ok-clause-value c =
    let x = position_read _ _ c.args.runs.now c.in-Ok.at c.index-runs-at.result c.index-variable.result.now c.in-Ok.ensures c.index-runs-at.is c.index-variable.ensures in
    ap Some c.value.ensures ∙ sym (got _ _ c.in-Ok.at c.args.name.now c.index-variable.result.now c.requires c.in-Ok.ensures x)

pub returns-in-Ok-clause-formed : goal.returns-in-Ok-clause-formed
returns-in-Ok-clause-formed c =
    let x = position_read _ _ c.args.runs.now c.in-Ok.at c.index-runs-at.result c.index-variable.result.now c.in-Ok.ensures c.index-runs-at.is c.index-variable.ensures in
    got_formed c.args.area.now c.args.area.now c.args.runs.now c.in-Ok.at c.args.name.now c.value.result.now c.index-variable.result.now c.requires c.in-Ok.ensures x refl c.value.ensures

pub returns-in-Err-clause-value : goal.returns-in-Err-clause-value
returns-in-Err-clause-value c = sym (got_nothing _ _ c.in-Err.field-0 c.args.name.now c.requires c.in-Err.ensures)
