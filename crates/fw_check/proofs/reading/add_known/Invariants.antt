use Rattle.std.proofs.Common.{◌≡◌, drop, map}
use Rattle.fw_check.specs.NameSets.{set_of, with_all}
use Rattle.fw_check.proofs.reading.add_known.Given as goal

abbrev pub invariant-loop-name : goal.invariant-loop-name
invariant-loop-name l =
    with_all (set_of l.given) (map (λ n. n.items) (drop l.name-index l.known)) ≡ with_all (set_of l.initial.given) (map (λ n. n.items) l.known)
