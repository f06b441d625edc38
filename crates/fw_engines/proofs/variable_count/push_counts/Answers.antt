use Rattle.std.proofs.Common.{◌≡◌, ◌++◌, [], ◌∷◌, codes, ◌∙◌}
use Rattle.std.specs.Fmt.{decimal}
use Rattle.std.specs.List.{concat}
use Rattle.fw_engines.specs.CopyStatus.{counts_line}
use Rattle.fw_engines.proofs.PartLemmas.{counts_are, then_ok}
use Rattle.fw_engines.proofs.variable_count.push_counts.Goals as goal

pub returns : goal.returns
returns c =
    let old = c.args.text.now.items in
    let new = c.push_all.new.text.items in
    let n : c.as_bytes.result.now ≡ decimal c.args.variables = c.as_bytes.ensures.value ∙ c.format.ensures.text in
    let u : c.as_bytes-2.result.now ≡ decimal c.args.used = c.as_bytes-2.ensures.value ∙ c.format-2.ensures.text in
    let r : c.as_bytes-3.result.now ≡ decimal c.args.room = c.as_bytes-3.ensures.value ∙ c.format-3.ensures.text in
    then_ok c.push_all.result
    (new ≡ old ++ concat (codes "variables    " ∷ c.as_bytes.result.now ∷ codes ", " ∷ c.as_bytes-2.result.now ∷ codes " of " ∷ c.as_bytes-3.result.now ∷ codes " bytes used\n" ∷ []))
    (new ≡ old ++ counts_line c.args.variables c.args.used c.args.room)
    (counts_are old new _ _ _ c.args.variables c.args.used c.args.room n u r) c.push_all.ensures
