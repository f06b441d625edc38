use Rattle.std.proofs.Common.{◌≡◌, false, drop, map}
use Rattle.std.specs.List.{flat_map}
use Rattle.fw_check.specs.Checking.{script_in}
use Rattle.fw_check.specs.Following.{follow_fronts}
use Rattle.fw_check.specs.Looking.{rules_in}
use Rattle.fw_check.specs.Naming.{asked_in}
use Rattle.fw_check.proofs.asking.ask_in_all.Given as goal

abbrev pub invariant-loop-name : goal.invariant-loop-name
invariant-loop-name l =
    follow_fronts l.asked (flat_map (λ name. asked_in (rules_in l.lookups) false (script_in l.vars.env name)) (map (λ n. n.items) (drop l.name-index l.visited)))
    ≡ follow_fronts l.initial.asked (flat_map (λ name. asked_in (rules_in l.lookups) false (script_in l.vars.env name)) (map (λ n. n.items) l.visited))
