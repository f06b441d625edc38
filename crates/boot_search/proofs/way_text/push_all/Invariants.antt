use Rattle.std.proofs.Common.{◌≡◌, ◌++◌, drop, map}
use Rattle.std.specs.List.{concat}
use Rattle.boot_search.proofs.way_text.push_all.Given as goal

abbrev pub invariant-loop-part : goal.invariant-loop-part
invariant-loop-part l = l.text.items ++ concat (map (λ p. p.now) (drop l.part-index l.parts)) ≡ l.initial.text.items ++ concat (map (λ p. p.now) l.parts)
