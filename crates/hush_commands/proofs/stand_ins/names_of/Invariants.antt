use Rattle.std.proofs.Common.{◌≡◌, map}
use Rattle.hush_commands.specs.CommandNames.{with_names}
use Rattle.hush_commands.proofs.stand_ins.names_of.Given as goal

abbrev pub invariant-loop-name : goal.invariant-loop-name
invariant-loop-name l = with_names l.word l.so_far (map (λ entry. entry.0.items) l.name-iterator) ≡ with_names l.word l.fn.found (map (λ entry. entry.0.items) l.roles.entries)
