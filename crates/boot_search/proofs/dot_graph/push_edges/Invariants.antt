use Rattle.std.proofs.Common.{◌≡◌, ◌++◌, drop}
use Rattle.std.specs.List.{flat_map}
use Rattle.boot_search.specs.Reports.{steps_of}
use Rattle.boot_search.specs.DotText.{edge_line}
use Rattle.boot_search.proofs.dot_graph.push_edges.Given as goal

abbrev pub invariant-loop-way : goal.invariant-loop-way
invariant-loop-way l =
    l.text.items ++ flat_map edge_line (steps_of (drop l.way-index l.ways)) ≡ l.initial.text.items ++ flat_map edge_line (steps_of l.ways)
