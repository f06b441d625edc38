use Rattle.std.proofs.Common.{◌≡◌, drop}
use Rattle.std.specs.List.{find}
use Rattle.fw_arguments.specs.Table.{is_called}
use Rattle.fw_arguments.proofs.program_name.named_in.Given as goal

abbrev pub invariant-loop-subcommand : goal.invariant-loop-subcommand
invariant-loop-subcommand l = find (is_called l.fn.name) (drop l.subcommand-index l.subcommands) ≡ find (is_called l.fn.name) l.subcommands
