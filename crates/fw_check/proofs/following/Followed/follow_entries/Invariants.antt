use Rattle.std.proofs.Common.{◌≡◌, drop, map}
use Rattle.fw_check.specs.Following.{follow_menu}
use Rattle.fw_check.proofs.following.Followed.follow_entries.Given as goal

abbrev pub invariant-loop-name : goal.invariant-loop-name
invariant-loop-name l =
    follow_menu l.self (map (λ n. n.now) (drop l.name-index l.name-items)) ≡ follow_menu l.initial.self (map (λ n. n.now) l.name-items)
