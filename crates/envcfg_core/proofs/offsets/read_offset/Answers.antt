use Rattle.std.proofs.Common.{◌∷◌, ap, sym, ◌∙◌}
use Rattle.envcfg_core.specs.Numerals.{offset_of}
use Rattle.envcfg_core.proofs.OffsetLemmas.{negated}
use Rattle.envcfg_core.proofs.offsets.read_offset.Goals as goal

pub returns-in_ok-read_magnitude-in-45 : goal.returns-in_ok-read_magnitude-in-45
returns-in_ok-read_magnitude-in-45 c =
    let rest = c.in_ok-first.rest.now in
    let e = c.in_ok-first.ensures.cases.0 in
    negated c.in_ok-read_magnitude-in-45.field-0 rest c.in_ok-read_magnitude-in-45.ensures ∙ sym (ap offset_of (e ∙ ap (λ b. b ∷ rest) c.in-45.is))
