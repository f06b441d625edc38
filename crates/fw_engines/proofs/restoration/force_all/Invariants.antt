use Rattle.std.proofs.Common.{◌≡◌, map, drop}
use Rattle.fw_engines.specs.Restoration.{forced_effect, write_view}
use Rattle.fw_engines.proofs.RestorationLemmas.{IsForced}
use Rattle.fw_engines.proofs.restoration.force_all.Given as goal

abbrev pub invariant-loop-write : goal.invariant-loop-write
invariant-loop-write g l = record {
  so_far : IsForced l.initial.session (map write_view l.writes) (drop l.write-index (map write_view l.writes)) l.session;
  rest : forced_effect l.session (drop l.write-index (map write_view l.writes)) ≡ forced_effect l.initial.session (map write_view l.writes);
  same : g.E.Write.contents l.errors ≡ g.E.Write.contents l.initial.errors;
}
