use Rattle.std.proofs.Common.{rules}
use Rattle.hush_syntax.specs.Scripts.{subtree_at}
use Rattle.hush_run.proofs.Parts.{list_first, chain_first, if_first, while_first, until_first, some_chain}
use Rattle.hush_run.proofs.descent.first_part.Goals as goal

pub member-requires : goal.member-requires
member-requires c = let h = rw c.in-List.is at c.node.ensures in let p = some_chain _ c.in-List.chains.now h.0 h.2 in search (rules, p)

pub returns-in-List : goal.returns-in-List
returns-in-List c = let h = rw c.in-List.is at c.node.ensures in list_first _ c.args.id c.member.result c.in-List.chains.now h.0 h.1 h.2 c.member.ensures

pub returns-in-Chain : goal.returns-in-Chain
returns-in-Chain c = let h = rw c.in-Chain.is at c.node.ensures in chain_first _ c.args.id c.member-in-Chain.result c.in-Chain.links.now h.0 h.1 h.2 c.member-in-Chain.ensures

pub returns-in-If : goal.returns-in-If
returns-in-If c = let h = rw c.in-If.is at c.node.ensures in if_first _ c.args.id c.member-in-If.result c.in-If.branches.now c.in-If.otherwise h.0 h.1 h.2 h.3 h.4 c.member-in-If.ensures

pub returns-in-While : goal.returns-in-While
returns-in-While c = let h = rw c.in-While.is at c.node.ensures in while_first (subtree_at c.args.script.now) c.args.id c.in-While.condition h.0 h.1 h.2 h.3

pub returns-in-Until : goal.returns-in-Until
returns-in-Until c = let h = rw c.in-Until.is at c.node.ensures in until_first (subtree_at c.args.script.now) c.args.id c.in-Until.condition h.0 h.1 h.2 h.3
