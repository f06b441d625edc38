use Rattle.std.proofs.Common.{◌≡◌, drop}
use Rattle.std.specs.List.{flat_map}
use Rattle.fw_check.specs.FileChecks.{script_texts, scripts_view}
use Rattle.fw_check.specs.Following.{follow_fronts}
use Rattle.fw_check.specs.Looking.{rules_in}
use Rattle.fw_check.specs.NameSets.{set_of, with_all}
use Rattle.fw_check.specs.Naming.{foreseen_in, given_in, run_in, written_in}
use Rattle.fw_check.proofs.reading.follow_files.Given as goal

abbrev pub invariant-loop-script : goal.invariant-loop-script
invariant-loop-script l = record {
  names :
      follow_fronts l.names (flat_map (run_in (rules_in l.lookups)) (script_texts (scripts_view (drop l.script-index l.scripts))))
      ≡ follow_fronts l.initial.names (flat_map (run_in (rules_in l.lookups)) (script_texts (scripts_view l.scripts)));
  given :
      with_all (set_of l.gathered.given) (flat_map (given_in (rules_in l.lookups)) (script_texts (scripts_view (drop l.script-index l.scripts))))
      ≡ with_all (set_of l.initial.gathered.given) (flat_map (given_in (rules_in l.lookups)) (script_texts (scripts_view l.scripts)));
  foreseen :
      with_all (set_of l.gathered.foreseen) (flat_map (foreseen_in (rules_in l.lookups)) (script_texts (scripts_view (drop l.script-index l.scripts))))
      ≡ with_all (set_of l.initial.gathered.foreseen) (flat_map (foreseen_in (rules_in l.lookups)) (script_texts (scripts_view l.scripts)));
  written :
      with_all (set_of l.gathered.written) (flat_map (written_in (rules_in l.lookups)) (script_texts (scripts_view (drop l.script-index l.scripts))))
      ≡ with_all (set_of l.initial.gathered.written) (flat_map (written_in (rules_in l.lookups)) (script_texts (scripts_view l.scripts)));
}
