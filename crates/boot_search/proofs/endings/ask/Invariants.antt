use Rattle.std.proofs.Common.{◌≡◌, ◌++◌, map}
use Rattle.boot_search.specs.Outcomes.{given_of}
use Rattle.boot_search.specs.Endings.{answers_of, with_answers}
use Rattle.boot_search.proofs.endings.ask.Given as goal

abbrev pub invariant-loop-count : goal.invariant-loop-count
invariant-loop-count l = map answers_of l.pending.items ≡ map answers_of l.initial.pending.items ++ with_answers (map given_of l.answers) l.question l.choices l.count
