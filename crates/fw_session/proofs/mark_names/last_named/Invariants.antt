use Rattle.std.proofs.Common.{◌≡◌, take}
use Rattle.std.specs.Prelude.{map, option_map}
use Rattle.fw_session.specs.Turns.{last_named}
use Rattle.fw_session.proofs.mark_names.last_named.Given as goal

abbrev pub invariant-loop-index : goal.invariant-loop-index
invariant-loop-index l = l.found ≡ last_named l.name (map (λ n. option_map (λ v. v.items) n) (take l.index l.names))
