use Rattle.std.proofs.Common.{◌≡◌, map, drop}
use Rattle.envcfg_core.specs.Entries.{entry_view}
use Rattle.fw_engines.proofs.DefaultsLemmas.{IsWritten}
use Rattle.fw_engines.proofs.default_environment.defaults.Given as goal

abbrev pub invariant-loop-entry : goal.invariant-loop-entry
invariant-loop-entry l = record {
  front : IsWritten l.room (map entry_view l.entries) (drop l.entry-index (map entry_view l.entries)) l.vars.env;
  room : l.vars.room ≡ l.room;
}
