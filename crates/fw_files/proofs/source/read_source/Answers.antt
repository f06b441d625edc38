use Rattle.std.proofs.Common.{sym, ◌∙◌}
use Rattle.fw_files.proofs.source.read_source.Goals as goal

pub returns-then-overlap-clause-stopped : goal.returns-then-overlap-clause-stopped
returns-then-overlap-clause-stopped g c = (c.in-Ok.copies.0, c.in-Ok.copies.1, sym c.overlap.ensures ∙ c.if-overlap.true)
