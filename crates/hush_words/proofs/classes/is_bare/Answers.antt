use Rattle.std.proofs.Common.{ap, ◌∙◌, get_or, false, arith}
use Rattle.hush_words.specs.declared.classes.bare.TheConstants.{BARE}
use Rattle.hush_words.proofs.BareLemmas.{table_entry}
use Rattle.hush_words.proofs.classes.is_bare.Goals as goal

pub returns : goal.returns
returns c = ap (λ b. get_or BARE b false) c.from.ensures ∙ table_entry c.args.b false (omega (arith, c.ranges.b))
