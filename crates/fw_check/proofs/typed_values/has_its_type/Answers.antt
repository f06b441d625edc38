use Rattle.std.proofs.Common.{ap, not, ◌∙◌}
use Rattle.fw_check.proofs.TypeLemmas.{typed-ok, typed-err}
use Rattle.fw_check.proofs.typed_values.has_its_type.Goals as goal

pub returns-in-Ok : goal.returns-in-Ok
returns-in-Ok c =
    let vars = c.args.vars.now in
    typed-ok vars.env vars.room c.args.name.now c.args.value.now c.requires.name c.requires.value c.check.result c.check.ensures.refusal c.in-Ok.is

pub returns-in-Err : goal.returns-in-Err
returns-in-Err c =
    let vars = c.args.vars.now in
    ap not c.is_for_type.ensures
    ∙ typed-err vars.env vars.room c.args.name.now c.args.value.now c.requires.name c.requires.value c.check.result c.check.ensures.refusal c.in-Err.refusal c.in-Err.is
