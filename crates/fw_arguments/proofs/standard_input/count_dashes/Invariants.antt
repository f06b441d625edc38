use Rattle.std.proofs.Common.{◌≡◌, ◌≤◌, ◌+◌, drop, map}
use Rattle.fw_arguments.specs.StandardInput.{dashes}
use Rattle.fw_arguments.proofs.standard_input.count_dashes.Given as goal

abbrev pub invariant-loop-path : goal.invariant-loop-path
invariant-loop-path l =
    (l.count + dashes (map (λ path. path.now) (drop l.path-index l.paths)) ≡ dashes (map (λ path. path.now) l.paths)) × (l.count ≤ l.path-index)
