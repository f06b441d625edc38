use Rattle.std.proofs.Common.{map, take}
use Rattle.std.specs.List.{fold}
use Rattle.clap.specs.Words.{app_of}
use Rattle.fw_arguments.specs.Words.{IsTool, with_row}
use Rattle.fw_arguments.specs.Table.{row_view}
use Rattle.fw_arguments.proofs.command_line.with_options.Given as goal

abbrev pub invariant-loop-row : goal.invariant-loop-row
invariant-loop-row l = IsTool (fold with_row (app_of l.fn.command) (map (row_view (λ t. t.now)) (take l.row-index l.options))) l.built
