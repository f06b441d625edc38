use Rattle.std.proofs.Common.{◌≡◌, None, false, length, map}
use Rattle.hush_commands.specs.Builtins.{builtins, name_of}
use Rattle.hush_commands.specs.CommandNames.{found_names, with_names}
use Rattle.hush_commands.proofs.command_names.found_builtins.Given as goal

abbrev pub invariant-loop-builtin : goal.invariant-loop-builtin
invariant-loop-builtin l = with_names l.word l.found (map name_of l.builtins) ≡ with_names l.word (found_names None false) (map name_of builtins)

abbrev pub decreases-loop-builtin : goal.decreases-loop-builtin
decreases-loop-builtin l = length l.builtins
