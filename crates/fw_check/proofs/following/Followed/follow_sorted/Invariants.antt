use Rattle.std.proofs.Common.{◌≡◌, drop, map}
use Rattle.fw_check.specs.Following.{follow_names}
use Rattle.fw_check.proofs.following.Followed.follow_sorted.Given as goal

abbrev pub invariant-loop-name : goal.invariant-loop-name
invariant-loop-name l =
    follow_names l.self (map (λ n. n.now) (drop l.name-index l.name-items)) ≡ follow_names l.initial.self (map (λ n. n.now) l.name-items)
