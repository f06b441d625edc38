use Rattle.std.proofs.Common.{◌≡◌, ◌∷◌, ◌&&◌, length}
use Rattle.std.specs.Prelude.{Result}
use Rattle.std.specs.List.{flat_map, list_all}
use Rattle.hush_commands.specs.declared.output.PrintFault.{PrintFault}
use Rattle.hush_commands.specs.Output.{Printed, Prints}
use Rattle.hush_commands.specs.Listing.{line_in, is_defined}
use Rattle.hush_commands.proofs.listing.print_named.Given as goal

-- what is printed for the names that are left completes what is printed for all of them
abbrev pub invariant-loop-name : goal.invariant-loop-name
invariant-loop-name l = record {
  defined : (l.all_defined && list_all (is_defined l.vars.env) l.rest) ≡ list_all (is_defined l.vars.env) (l.first ∷ l.fn.others);
  printed : (after : Printed) (r : Result (Unit {0}) PrintFault) → Prints (flat_map (line_in l.vars.env) l.rest) l.output after r → Prints (flat_map (line_in l.vars.env) (l.first ∷ l.fn.others)) l.fn.output after r;
}

abbrev pub decreases-loop-name : goal.decreases-loop-name
decreases-loop-name l = length l.rest
