use Rattle.std.proofs.Common.{◌≡◌, false, drop}
use Rattle.std.specs.List.{flat_map}
use Rattle.fw_check.specs.FileChecks.{script_texts, scripts_view}
use Rattle.fw_check.specs.Following.{follow_fronts}
use Rattle.fw_check.specs.Looking.{rules_in}
use Rattle.fw_check.specs.Naming.{asked_in}
use Rattle.fw_check.proofs.asking.ask_in_files.Given as goal

abbrev pub invariant-loop-script : goal.invariant-loop-script
invariant-loop-script l =
    follow_fronts l.asked (flat_map (asked_in (rules_in l.lookups) false) (script_texts (scripts_view (drop l.script-index l.scripts))))
    ≡ follow_fronts l.initial.asked (flat_map (asked_in (rules_in l.lookups) false) (script_texts (scripts_view l.scripts)))
