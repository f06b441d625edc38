use Rattle.std.proofs.Common.{◌≡◌, drop, map}
use Rattle.std.specs.List.{list_any}
use Rattle.std.specs.Prelude.{option_map}
use Rattle.fw_check.specs.Called.{is_after_env}
use Rattle.fw_check.proofs.operands.stands_for_one.Given as goal

abbrev pub invariant-loop-name : goal.invariant-loop-name
invariant-loop-name l =
    list_any (λ name. is_after_env l.lookups.rules.shell 1 name (option_map (λ v. v.items) l.word)) (map (λ n. n.now) (drop l.name-index l.names))
    ≡ list_any (λ name. is_after_env l.lookups.rules.shell 1 name (option_map (λ v. v.items) l.word)) (map (λ n. n.now) l.names)
