use Rattle.std.proofs.Common.{rules, ℕ, None, sym, subst, ap, ◌∙◌}
use Rattle.std.proofs.lemmas.Bool.{ne_eqb}
use Rattle.hush_run.specs.Turns.{Turns}
use Rattle.hush_run.specs.declared.turns.Turn.{Turn}
use Rattle.hush_run.specs.declared.frames.Frame.TheVariants as frame
use Rattle.hush_run.specs.declared.due.Due.TheVariants as due
use Rattle.hush_run.proofs.TurnLemmas.{branches_end, branch_body, branch_next_here, branch_else_at, branch_fi_at}
use Rattle.hush_run.proofs.turns.branches_turn.Goals as goal

abbrev left_with : ℕ → Turn
left_with status = record { due = due.Over; behind = None; status = status }

pub returns-then-branch-branches : goal.returns-then-branch-branches
returns-then-branch-branches c = λ at p d b e are. subst (λ (t : Turn). Turns c.args.shell at (frame.Branch c.args.node c.args.branch) c.args.status t) (sym c.over.ensures) (branches_end c.args.shell at c.args.node c.args.branches.now c.args.otherwise p d b e are c.args.branch c.args.status (search (rules, c.if-branch-branches.true)))

pub returns-then-status-eq0 : goal.returns-then-status-eq0
returns-then-status-eq0 c = λ at p d b e are. subst (λ (t : Turn). Turns c.args.shell at (frame.Branch c.args.node c.args.branch) c.args.status t) (sym c.goes_to.ensures) (branch_body c.args.shell at c.args.node c.args.branches.now c.args.otherwise p d b e are c.args.branch c.args.status c.member.result (search (rules, c.if-branch-branches.false)) c.member.ensures c.if-status-eq0.true)

pub returns-then-next-branches : goal.returns-then-next-branches
returns-then-next-branches c = λ at p d b e are. subst (λ (t : Turn). Turns c.args.shell at (frame.Branch c.args.node c.args.branch) c.args.status t) (sym c.goes_to-then-next-branches.ensures) (branch_next_here c.args.shell at c.args.node c.args.branches.now c.args.otherwise p d b e are c.args.branch c.args.status c.member-then-next-branches.result (search (rules, c.if-branch-branches.false)) (search (rules, c.if-next-branches.true)) c.member-then-next-branches.ensures (ne_eqb c.args.status 0 c.if-status-eq0.false))

pub returns-in-Some : goal.returns-in-Some
returns-in-Some c = λ at p d b e are. subst (λ (t : Turn). Turns c.args.shell at (frame.Branch c.args.node c.args.branch) c.args.status t) (sym c.goes_to-in-Some.ensures) (branch_else_at c.args.shell at c.args.node c.args.branches.now c.args.otherwise p d b e are c.args.branch c.args.status c.in-Some.body (search (rules, c.if-branch-branches.false)) (search (rules, c.if-next-branches.false)) (ne_eqb c.args.status 0 c.if-status-eq0.false) c.in-Some.is)

pub returns-in-None : goal.returns-in-None
returns-in-None c = λ at p d b e are. subst (λ (t : Turn). Turns c.args.shell at (frame.Branch c.args.node c.args.branch) c.args.status t) (sym (c.over-in-None.ensures ∙ ap left_with c.kept_status.ensures)) (branch_fi_at c.args.shell at c.args.node c.args.branches.now c.args.otherwise p d b e are c.args.branch c.args.status (search (rules, c.if-branch-branches.false)) (search (rules, c.if-next-branches.false)) (ne_eqb c.args.status 0 c.if-status-eq0.false) c.in-None.is)
