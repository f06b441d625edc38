use Rattle.std.proofs.Common.{sym, ◌∙◌}
use Rattle.envcfg_core.proofs.ImportLemmas.{import_read}
use Rattle.envcfg_core.proofs.import.parse_import.Goals as goal

pub returns-clause-read : goal.returns-clause-read
returns-clause-read c =
    import_read c.args.text.now _ _ _ (sym c.contains_byte.ensures ∙ c.if-contains_byte.false) c.loop-rest.invariant.read (sym c.is_empty.ensures ∙ c.loop-rest-test.false)
