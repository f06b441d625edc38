use Rattle.std.proofs.Common.{Some, List, subst, sym}
use Rattle.hush_commands.specs.declared.stand_ins.Role.{Role}
use Rattle.hush_commands.specs.Entries.{Entry, role_view}
use Rattle.hush_commands.proofs.EntryLemmas.{AreSorted, sorted-insert}
use Rattle.hush_commands.proofs.StandInLemmas.{leaves_so}
use Rattle.hush_commands.proofs.stand_ins.Stubs.set_leaving.Goals as goal

pub invariant_of-self-2 : goal.invariant_of-self-2
invariant_of-self-2 c =
    subst (λ (es : List (Entry Role)). AreSorted role_view es) (sym c.in_ok-insert.ensures.entries)
    (sorted-insert role_view c.self.inside.roles.entries c.in_ok-name.name (record { status = c.args.status; leaves = Some c.args.leaving }) c.self.invariant)

pub returns-clause-ok : goal.returns-clause-ok
returns-clause-ok c =
    leaves_so c.args.leaving c.self.inside.roles.entries _ c.args.self.now c.in_ok-name.name c.args.name.now c.args.status c.self.invariant c.self.view_is
    c.in_ok-name.ensures.items c.in_ok-insert.ensures.entries
