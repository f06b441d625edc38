use Rattle.std.proofs.Common.{◌≡◌, ◌++◌, map}
use Rattle.envcfg_core.specs.Entries.{entry_view}
use Rattle.env_source.specs.Reading.{entries_of, variables_view}
use Rattle.env_source.proofs.reading.entries_of.Given as goal

abbrev pub invariant-loop-name : goal.invariant-loop-name
invariant-loop-name l = map entry_view l.entries.items ++ entries_of (variables_view l.name-iterator) ≡ entries_of (variables_view l.fn.variables.entries)
