use Rattle.std.proofs.Common.{◌≡◌, drop, map}
use Rattle.fw_check.specs.Following.{follow_scripts_of}
use Rattle.fw_check.specs.Looking.{hardware_in}
use Rattle.fw_check.proofs.following.Followed.follow_scripts.Given as goal

abbrev pub invariant-loop-name : goal.invariant-loop-name
invariant-loop-name l =
    follow_scripts_of (hardware_in l.lookups) l.self (map (λ n. n.now) (drop l.name-index l.name-items)) ≡ follow_scripts_of (hardware_in l.lookups) l.initial.self (map (λ n. n.now) l.name-items)
