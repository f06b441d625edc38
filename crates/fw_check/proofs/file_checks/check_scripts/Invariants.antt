use Rattle.std.proofs.Common.{drop}
use Rattle.fw_check.specs.FileChecks.{ReportsFiles, scripts_view}
use Rattle.fw_check.specs.ReportLines.{Report}
use Rattle.fw_check.specs.Looking.{known_in, rules_in}
use Rattle.fw_check.proofs.file_checks.check_scripts.Given as goal

abbrev pub invariant-loop-script : goal.invariant-loop-script
invariant-loop-script l =
    (final : Report) → ReportsFiles (known_in l.lookups) (rules_in l.lookups) (scripts_view (drop l.script-index l.scripts)) l.so_far final
    → ReportsFiles (known_in l.lookups) (rules_in l.lookups) (scripts_view l.scripts) l.fn.report final
