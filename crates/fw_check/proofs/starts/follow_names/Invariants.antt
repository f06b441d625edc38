use Rattle.std.proofs.Common.{◌≡◌, drop, map}
use Rattle.fw_check.specs.Following.{follow_names}
use Rattle.fw_check.proofs.starts.follow_names.Given as goal

abbrev pub invariant-loop-name : goal.invariant-loop-name
invariant-loop-name l =
    follow_names l.followed (map (λ n. n.now) (drop l.name-index l.names)) ≡ follow_names l.initial.followed (map (λ n. n.now) l.names)
