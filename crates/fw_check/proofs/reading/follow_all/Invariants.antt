use Rattle.std.proofs.Common.{◌-◌}
use Rattle.fw_check.specs.Looking.{rules_in}
use Rattle.fw_check.specs.NameSets.{set_of}
use Rattle.fw_check.proofs.VisitLemmas.{Follows}
use Rattle.fw_check.proofs.reading.follow_all.Given as goal

abbrev pub invariant-loop-name : goal.invariant-loop-name
invariant-loop-name l = Follows (rules_in l.lookups) l.vars.env l.initial.names l.names l.index (set_of l.initial.gathered.given) (set_of l.initial.gathered.foreseen)
    (set_of l.initial.gathered.written) (set_of l.gathered.given) (set_of l.gathered.foreseen) (set_of l.gathered.written)

abbrev pub decreases-loop-name : goal.decreases-loop-name
decreases-loop-name l = 18446744073709551615 - l.index
