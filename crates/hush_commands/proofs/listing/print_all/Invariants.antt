use Rattle.std.specs.Prelude.{Result}
use Rattle.std.specs.FinMap.{entries}
use Rattle.hush_commands.specs.declared.output.PrintFault.{PrintFault}
use Rattle.hush_commands.specs.Output.{Printed, Prints}
use Rattle.hush_commands.specs.Listing.{lines_of}
use Rattle.hush_commands.proofs.listing.print_all.Given as goal

-- what is printed for the variables that are left completes what is printed for all of them
abbrev pub invariant-loop-name : goal.invariant-loop-name
invariant-loop-name l = (after : Printed) (r : Result (Unit {0}) PrintFault) → Prints (lines_of l.all l.name-iterator) l.output after r → Prints (lines_of l.all (entries l.vars.env)) l.initial.output after r
