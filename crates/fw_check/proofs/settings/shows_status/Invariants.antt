use Rattle.std.proofs.Common.{◌≡◌, drop}
use Rattle.fw_check.specs.Settings.{shows_after, shows_status}
use Rattle.fw_check.proofs.settings.shows_status.Given as goal

abbrev pub invariant-loop-b : goal.invariant-loop-b
invariant-loop-b l = shows_after l.before (drop l.b-index l.text) ≡ shows_status l.text
