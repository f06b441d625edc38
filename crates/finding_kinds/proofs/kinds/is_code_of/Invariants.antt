use Rattle.std.proofs.Common.{◌≡◌, drop}
use Rattle.std.specs.List.{list_any}
use Rattle.finding_kinds.specs.Kinds.{is_called}
use Rattle.finding_kinds.proofs.kinds.is_code_of.Given as goal

abbrev pub invariant-loop-kind : goal.invariant-loop-kind
invariant-loop-kind l = list_any (is_called l.text) (drop l.kind-index l.kinds) ≡ list_any (is_called l.text) l.kinds
