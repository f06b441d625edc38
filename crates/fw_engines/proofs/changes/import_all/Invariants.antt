use Rattle.std.proofs.Common.{◌≡◌, ◌≤◌, ◌++◌, ℕ, map, take, drop}
use Rattle.env_session.specs.Session.{Held}
use Rattle.env_session.specs.Requests.{entry_in, imported}
use Rattle.envcfg_core.specs.Entries.{entry_view}
use Rattle.fw_engines.specs.Changes.{refused_lines}
use Rattle.fw_engines.proofs.changes.import_all.Given as goal

abbrev pub invariant-loop-entry : goal.invariant-loop-entry
invariant-loop-entry l = record {
  so_far : ◌≡◌ {A = Held × ℕ} (l.session, l.refused) (imported l.initial.session (take l.entry-index (map entry_in l.entries)));
  few : l.refused ≤ l.entry-index;
  text : l.lines.items ++ refused_lines l.session (map entry_view (drop l.entry-index l.entries))
      ≡ l.initial.lines.items ++ refused_lines l.initial.session (map entry_view l.entries);
}
