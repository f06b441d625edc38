use Rattle.std.proofs.Common.{◌≡◌, drop, map}
use Rattle.std.specs.Prelude.{option_map}
use Rattle.fw_check.specs.Findings.{names_findings, word_findings}
use Rattle.fw_check.specs.Found.{found_more}
use Rattle.fw_check.specs.Looking.{known_in}
use Rattle.fw_check.proofs.undefined_names.check_word.Given as goal

abbrev pub invariant-loop-name : goal.invariant-loop-name
invariant-loop-name l =
    found_more l.findings (names_findings (known_in l.lookups) l.fn.word.start (option_map (λ v. v.now) l.last) (map (λ n. n.now) (drop l.name-index l.name-items)))
    ≡ found_more l.initial.findings (word_findings (known_in l.lookups) l.text l.fn.word)
