use Rattle.std.proofs.Common.{◌≡◌, drop}
use Rattle.std.specs.List.{list_any}
use Rattle.fw_check.specs.Findings.{shows_in}
use Rattle.fw_check.proofs.statuses.shows_any.Given as goal

abbrev pub invariant-loop-word : goal.invariant-loop-word
invariant-loop-word l = list_any (shows_in l.text) (drop l.word-index l.words) ≡ list_any (shows_in l.text) l.words
