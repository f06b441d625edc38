use Rattle.std.proofs.Common.{◌≡◌, ◌++◌, length, ap, ◌∙◌}
use Rattle.std.specs.FinMap as env
use Rattle.envimg_core.specs.Environment.{used}
use Rattle.envimg_core.specs.Pieces.{entries_of, vars_of}
use Rattle.fw_engines.specs.CopyStatus.{count_line, counts_line}
use Rattle.fw_engines.proofs.PartLemmas.{then_ok}
use Rattle.fw_engines.proofs.variable_count.push_area.Goals as goal

pub returns : goal.returns
returns c =
    let old = c.args.text.now.items in
    let new = c.push_counts.new.text.items in
    let loaded = c.in_ok-vars.ensures in
    let n = c.in_ok-variables.ensures ∙ ap (λ v. length (env.entries v.env)) loaded in
    let u = c.used.ensures.size ∙ ap (λ v. used v.env) loaded in
    let r = c.room.ensures ∙ ap (λ v. v.room) loaded in
    then_ok c.push_counts.result (new ≡ old ++ counts_line c.in_ok-variables.variables c.used.result c.room.result)
    (new ≡ old ++ count_line (vars_of (entries_of c.args.area.now)) (length c.args.area.now))
    (λ q. q ∙ (λ i. old ++ counts_line (n i) (u i) (r i))) c.push_counts.ensures
