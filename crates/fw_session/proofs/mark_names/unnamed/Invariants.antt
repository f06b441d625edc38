use Rattle.std.proofs.Common.{◌≡◌, None, length}
use Rattle.std.specs.Prelude.{replicate}
use Rattle.fw_session.specs.NamedSessions.{names_of}
use Rattle.fw_session.proofs.mark_names.unnamed.Given as goal

abbrev pub invariant-loop-mark : goal.invariant-loop-mark
invariant-loop-mark l = (names_of l.names.items ≡ replicate l._mark None) × (length l.names.items ≡ l._mark)
