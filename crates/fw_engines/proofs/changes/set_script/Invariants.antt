use Rattle.std.proofs.Common.{◌≡◌, ℕ, map, take, drop}
use Rattle.env_session.specs.Session.{Held}
use Rattle.env_session.specs.Requests.{entry_in, imported}
use Rattle.fw_engines.specs.Changes.{script_effect}
use Rattle.fw_engines.proofs.changes.set_script.Given as goal

abbrev pub invariant-loop-entry : goal.invariant-loop-entry
invariant-loop-entry g l = record {
  so_far : ◌≡◌ {A = Held × ℕ} (l.session, 0) (imported l.initial.session (take l.entry-index (map entry_in l.entries)));
  rest : script_effect l.session (drop l.entry-index (map entry_in l.entries)) ≡ script_effect l.initial.session (map entry_in l.entries);
  same : g.E.Write.contents l.errors ≡ g.E.Write.contents l.initial.errors;
}
