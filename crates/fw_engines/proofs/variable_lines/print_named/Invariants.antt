use Rattle.std.proofs.Common.{◌≡◌, map, take}
use Rattle.std.specs.Prelude.{is_none}
use Rattle.std.specs.FinMap.{get}
use Rattle.std.specs.List.{list_any}
use Rattle.fw_engines.specs.Tool.{Writes}
use Rattle.fw_engines.specs.VariableLines.{named}
use Rattle.fw_engines.proofs.variable_lines.print_named.Given as goal

abbrev pub invariant-loop-name : goal.invariant-loop-name
invariant-loop-name g l = record {
  wrote : Writes (record { output = g.W.Write.contents l.initial.output; errors = g.E.Write.contents l.initial.errors })
      (record { output = g.W.Write.contents l.output; errors = g.E.Write.contents l.errors })
      (named l.value_only l.vars.env (take l.name-index (map (λ n. n.now) l.names)));
  absent : l.absent ≡ list_any (λ n. is_none (get l.vars.env n)) (take l.name-index (map (λ n. n.now) l.names));
}
