use Rattle.std.proofs.Common.{rules, IsSome, subst, sym}
use Rattle.hush_syntax.specs.Builders.{Holds}
use Rattle.hush_syntax.specs.Builders.{members_of}
use Rattle.hush_syntax.specs.Scripts.{subtree_at}
use Rattle.hush_syntax.proofs.Tables.{node_stands, known_within}
use Rattle.hush_syntax.proofs.script.Script.stored.Goals as goal

pub index-requires : goal.index-requires
index-requires c =
    let s = c.self.inside in
    let p = known_within s.text (members_of s.table) s.table.nodes.items c.args.id (subst (λ v. IsSome (subtree_at v c.args.id)) (sym c.self.view_is) c.requires) in
    search (rules, p)

pub returns : goal.returns
returns c =
    let s = c.self.inside in
    let known = subst (λ v. IsSome (subtree_at v c.args.id)) (sym c.self.view_is) c.requires in
    subst (λ v. Holds v.text v.members (subtree_at v) (subtree_at v c.args.id) c.index.result.now) c.self.view_is
    (node_stands s.text (members_of s.table) s.table.nodes.items c.args.id c.index.result.now known (known_within s.text (members_of s.table) s.table.nodes.items c.args.id known) c.index.ensures)
