use Rattle.std.proofs.Common.{◌≡◌, drop, map}
use Rattle.fw_arguments.specs.Checks.{wrong_code}
use Rattle.fw_arguments.proofs.check_requests.first_wrong.Given as goal

abbrev pub invariant-loop-text : goal.invariant-loop-text
invariant-loop-text l = wrong_code (map (λ t. t.now) (drop l.text-index l.texts)) ≡ wrong_code (map (λ t. t.now) l.texts)
