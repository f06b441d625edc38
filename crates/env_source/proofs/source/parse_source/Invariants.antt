use Rattle.std.proofs.Common.{◌≡◌}
use Rattle.env_source.specs.Reading.{reading_view}
use Rattle.env_source.specs.Sources.{and_then, finished, source_of, with_lines}
use Rattle.env_source.proofs.source.parse_source.Given as goal

abbrev pub invariant-loop-number : goal.invariant-loop-number
invariant-loop-number l = source_of l.text ≡ and_then (with_lines (reading_view l.reading) l.number-iterator) finished
