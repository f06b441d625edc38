use Rattle.std.proofs.Common.{map, ap}
use Rattle.hush_commands.specs.Builtins.{builtins, name_of}
use Rattle.hush_commands.specs.CommandNames.{FoundNames, with_names}
use Rattle.hush_commands.proofs.command_names.found_builtins.Goals as goal

pub loop-builtin-init : goal.loop-builtin-init
loop-builtin-init c = ap (λ (so_far : FoundNames). with_names c.args.word.now so_far (map name_of builtins)) c.none-found.ensures
