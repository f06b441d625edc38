use Rattle.std.proofs.Common.{◌≡◌, ◌++◌, drop}
use Rattle.std.specs.List.{flat_map}
use Rattle.dump_search.specs.DumpLines.{found_lines}
use Rattle.dump_search.proofs.dump_lines.lines_of.Given as goal

abbrev pub invariant-loop-environment : goal.invariant-loop-environment
invariant-loop-environment l =
    l.text.items ++ flat_map (found_lines l.path) (drop l.environment-index l.found) ≡ flat_map (found_lines l.path) l.found
