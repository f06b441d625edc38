use Rattle.std.proofs.Common.{◌≡◌, drop, map}
use Rattle.std.specs.List.{fold}
use Rattle.fw_check.specs.Checking.{with_given, first_report}
use Rattle.finding_kinds.specs.Choices.{choice_view}
use Rattle.fw_check.proofs.visits.report_given.Given as goal

abbrev pub invariant-loop-name : goal.invariant-loop-name
invariant-loop-name l =
    fold (with_given l.vars.env) l.report (map (λ n. n.now) (drop l.name-index l.names)) ≡ first_report (choice_view l.fn.choice) l.vars.env (map (λ n. n.now) l.names)
