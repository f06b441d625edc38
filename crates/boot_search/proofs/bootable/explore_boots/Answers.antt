use Rattle.std.proofs.Common.{true, false, List, sym, subst}
use Rattle.std.specs.Prelude.{All}
use Rattle.boot_search.specs.declared.exploring.Way.{Way}
use Rattle.boot_search.specs.Reports.{steps_of}
use Rattle.boot_search.specs.Bootable.{IsWithin, AreBootable, IsClosed}
use Rattle.boot_search.proofs.BootableLemmas.{marks_are, survey_is, within_count}
use Rattle.boot_search.proofs.bootable.explore_boots.Goals as goal

pub bootable-requires : goal.bootable-requires
bootable-requires g c =
    let within = within_count (g.B.Board.runs c.args.board.now) c.args.start.now c.in_ok-report.report c.len-count.result c.len-count.ensures c.in_ok-report.ensures.report in
    subst (λ (ways : List Way). All (IsWithin c.len-count.result) (steps_of ways)) (sym c.as_slice-ways.ensures.value) within

pub bootable-requires-2 : goal.bootable-requires-2
bootable-requires-2 g c =
    let within = within_count (g.B.Board.runs c.args.board.now) c.args.start.now c.in_ok-report.report c.len-count.result c.len-count.ensures c.in_ok-report.ensures.report in
    subst (λ (ways : List Way). All (IsWithin c.len-count.result) (steps_of ways)) (sym c.as_slice-ways.ensures.value) within

pub returns-clause-boots : goal.returns-clause-boots
returns-clause-boots g c =
    let marks = c.in_ok-boots.boots.items in
    let boots = subst (λ (ways : List Way). AreBootable false (steps_of ways) marks) c.as_slice-ways.ensures.value c.in_ok-boots.ensures.boots in
    let closed = subst (λ (ways : List Way). All (IsClosed false marks) (steps_of ways)) c.as_slice-ways.ensures.value c.in_ok-boots.ensures.all in
    marks_are false (g.B.Board.runs c.args.board.now) c.args.start.now _ _ _ (steps_of c.in_ok-report.report.ways.items) marks c.in_ok-report.ensures.report boots closed

pub returns-clause-may_boot : goal.returns-clause-may_boot
returns-clause-may_boot g c =
    let marks = c.in_ok-may_boot.may_boot.items in
    let boots = subst (λ (ways : List Way). AreBootable true (steps_of ways) marks) c.as_slice-ways.ensures.value c.in_ok-may_boot.ensures.boots in
    let closed = subst (λ (ways : List Way). All (IsClosed true marks) (steps_of ways)) c.as_slice-ways.ensures.value c.in_ok-may_boot.ensures.all in
    marks_are true (g.B.Board.runs c.args.board.now) c.args.start.now _ _ _ (steps_of c.in_ok-report.report.ways.items) marks c.in_ok-report.ensures.report boots closed

pub returns-clause-survey : goal.returns-clause-survey
returns-clause-survey g c =
    survey_is (g.B.Board.runs c.args.board.now) c.args.start.now c.in_ok-report.report c.in_ok-boots.boots c.in_ok-may_boot.may_boot c.len-count.result c.len-count.ensures
    c.in_ok-report.ensures.report c.in_ok-boots.ensures.length c.in_ok-may_boot.ensures.length
