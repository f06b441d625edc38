use Rattle.std.proofs.Common.{◌-◌, true}
use Rattle.fw_check.specs.Looking.{rules_in}
use Rattle.fw_check.specs.Naming.{asked_in}
use Rattle.fw_check.proofs.VisitLemmas.{Walks}
use Rattle.fw_check.proofs.asking.ask_at_ends.Given as goal

abbrev pub invariant-loop-name : goal.invariant-loop-name
invariant-loop-name l = Walks (asked_in (rules_in l.lookups) true) l.vars.env l.initial.asked l.asked l.index

abbrev pub decreases-loop-name : goal.decreases-loop-name
decreases-loop-name l = 18446744073709551615 - l.index
