use Rattle.std.proofs.Common.{◌≡◌, ◌++◌, map, drop}
use Rattle.fw_tools.proofs.task_work.all_bytes.Given as goal

abbrev pub invariant-loop-word : goal.invariant-loop-word
invariant-loop-word l = map (λ b. b.now) l.bytes.items ++ map (λ w. w.now) (drop l.word-index l.words) ≡ map (λ w. w.now) l.words
