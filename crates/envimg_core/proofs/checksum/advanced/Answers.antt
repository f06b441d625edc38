use Rattle.std.proofs.Common.{arith, ap, ◌∙◌, get_or, []}
use Rattle.envimg_core.specs.declared.checksum.tables.TheConstants.{TABLES}
use Rattle.envimg_core.proofs.TableLemmas.{table_entry}
use Rattle.envimg_core.proofs.checksum.advanced.Goals as goal

pub returns : goal.returns
returns c = ap (λ b. get_or (get_or TABLES c.args.zeros []) b 0) c.from.ensures ∙ table_entry c.args.zeros c.args.byte c.requires (omega (arith, c.ranges.byte))
