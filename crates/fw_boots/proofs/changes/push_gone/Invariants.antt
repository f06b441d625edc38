use Rattle.std.proofs.Common.{◌≡◌, ◌++◌}
use Rattle.std.specs.FinMap as map
use Rattle.fw_boots.specs.Boots.{gone_lines}
use Rattle.fw_boots.proofs.changes.push_gone.Given as goal

abbrev pub invariant-loop-name : goal.invariant-loop-name
invariant-loop-name l =
    l.text.items ++ gone_lines l.now.env l.name-iterator ≡ l.initial.text.items ++ gone_lines l.now.env (map.entries l.first.env)
