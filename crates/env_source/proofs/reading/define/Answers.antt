use Rattle.std.proofs.Common.{sym, ◌∙◌}
use Rattle.env_source.proofs.TableLemmas.{defined}
use Rattle.env_source.proofs.reading.define.Goals as goal

pub returns : goal.returns
returns c =
    defined c.args.variables.now.entries c.insert.new.self.entries c.args.name c.args.definition (sym c.is_empty.ensures ∙ c.if-is_empty.false)
    c.in_ok-insert.ensures.entries
