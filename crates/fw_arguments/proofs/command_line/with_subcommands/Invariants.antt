use Rattle.std.proofs.Common.{◌≡◌, map, take}
use Rattle.std.specs.List.{fold}
use Rattle.clap.specs.Words.{app_of}
use Rattle.fw_arguments.specs.Words.{with_called}
use Rattle.fw_arguments.proofs.command_line.with_subcommands.Given as goal

abbrev pub invariant-loop-subcommand : goal.invariant-loop-subcommand
invariant-loop-subcommand l = app_of l.built ≡ fold with_called (app_of l.fn.command) (map (λ s. s) (take l.subcommand-index l.subcommands))
