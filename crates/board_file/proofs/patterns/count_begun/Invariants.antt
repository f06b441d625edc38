use Rattle.std.proofs.Common.{◌≡◌, ◌≤◌, ◌+◌, drop, length, filter, map}
use Rattle.hush_commands.specs.CommandNames.{begins_with}
use Rattle.board_file.proofs.patterns.count_begun.Given as goal

abbrev pub invariant-loop-name : goal.invariant-loop-name
invariant-loop-name l =
    (l.count + length (filter (begins_with l.front) (map (λ name. name.now) (drop l.name-index l.names)))
    ≡ length (filter (begins_with l.front) (map (λ name. name.now) l.names)))
    × (l.count ≤ l.name-index)
