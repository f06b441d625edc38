use Rattle.std.proofs.Common.{◌≡◌, drop}
use Rattle.std.specs.List.{flat_map}
use Rattle.fw_check.specs.CommandFindings.{foreign_findings}
use Rattle.fw_check.specs.Found.{found_more}
use Rattle.fw_check.proofs.foreign.check_foreign.Given as goal

abbrev pub invariant-loop-word : goal.invariant-loop-word
invariant-loop-word l =
    found_more l.findings (flat_map (foreign_findings l.text) (drop l.word-index l.words)) ≡ found_more l.initial.findings (flat_map (foreign_findings l.text) l.words)
