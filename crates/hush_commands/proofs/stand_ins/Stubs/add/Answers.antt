use Rattle.std.proofs.Common.{None, ℕ, List, ap, subst, sym, ◌∙◌}
use Rattle.hush_commands.specs.declared.stand_ins.Role.{Role}
use Rattle.hush_commands.specs.Entries.{Entry, role_view}
use Rattle.hush_commands.specs.Stubs.{with_stand_in}
use Rattle.hush_commands.proofs.EntryLemmas.{AreSorted, sorted-insert}
use Rattle.hush_commands.proofs.StandInLemmas.{added, had-one}
use Rattle.hush_commands.proofs.stand_ins.Stubs.add.Goals as goal
use Rattle.hush_commands.proofs.stand_ins.Stubs.add.Goals.{in-Some, in-None}

pub invariant_of-self-2 : goal.invariant_of-self-2
invariant_of-self-2 c =
    subst (λ (es : List (Entry Role)). AreSorted role_view es) (sym c.in_ok-_old.ensures.entries)
    (sorted-insert role_view c.self.inside.roles.entries c.in_ok-name.name (record { status = c.args.status; leaves = None }) c.self.invariant)

pub returns-clause-read : goal.returns-clause-read
returns-clause-read c =
    elim c.match-branch-3.branch [
      | in-Some w ↦ rw w.result-is tt
      | in-None w ↦
          rw w.result-is
          (ap (λ (n : List ℕ). with_stand_in c.args.number c.args.self.now n c.args.status) (sym c.in_ok-name.ensures.items)
          ∙ added c.args.number c.self.inside.roles.entries _ c.args.self.now c.in_ok-name.name c.args.status c.self.invariant c.self.view_is
          (sym w.in-None.is ∙ c.in_ok-_old.ensures.old) c.in_ok-_old.ensures.entries)
    ]

pub returns-clause-refused : goal.returns-clause-refused
returns-clause-refused c =
    elim c.match-branch-3.branch [
      | in-Some w ↦
          rw w.result-is
          (ap (λ (n : List ℕ). with_stand_in c.args.number c.args.self.now n c.args.status) (sym c.in_ok-name.ensures.items)
          ∙ had-one c.args.number c.self.inside.roles.entries c.args.self.now c.in_ok-name.name.items c.args.status w.in-Some._old c.self.invariant
          c.self.view_is (sym w.in-Some.is ∙ c.in_ok-_old.ensures.old))
      | in-None w ↦ rw w.result-is tt
    ]
