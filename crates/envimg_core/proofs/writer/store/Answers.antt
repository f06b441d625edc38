use Rattle.std.proofs.Common.{◌+◌, length, ap, ◌∙◌, [], ◌∷◌}
use Rattle.envimg_core.specs.Steps.{spliced}
use Rattle.envimg_core.proofs.WriterLemmas.{store_four}
use Rattle.envimg_core.proofs.writer.store.Goals as goal

pub returns : goal.returns
returns c =
    let i = c.args.start in
    let n = c.args.name.now in
    let v = c.args.value.now in
    c.overwrite-4.ensures
    ∙ ap (spliced (i + length n + 1 + length v) (0 ∷ [])) (c.overwrite-3.ensures ∙ ap (spliced (i + length n + 1) v) (c.overwrite-2.ensures ∙ ap (spliced (i + length n) (61 ∷ [])) c.overwrite.ensures))
    ∙ store_four i n v c.args.image.now c.requires
