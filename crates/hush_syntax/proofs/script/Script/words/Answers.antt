use Rattle.std.proofs.Common.{◌≡◌, ◌∙◌, ap, map, subst, sym}
use Rattle.hush_syntax.specs.Builders.{members_of}
use Rattle.hush_syntax.specs.CommandWords.{leaf_in, script_leaves}
use Rattle.hush_syntax.specs.Scripts.{Parsed, tree_of}
use Rattle.hush_syntax.specs.Stored.{subtree_in}
use Rattle.hush_syntax.proofs.Told.{root-tree}
use Rattle.hush_syntax.proofs.WordLaws.{ranged-leaves}
use Rattle.hush_syntax.proofs.script.Script.words.Goals as goal

pub returns-clause-told : goal.returns-clause-told
returns-clause-told c =
    let s = c.self.inside in
    let i = c.self.invariant in
    let tree = root-tree (subtree_in s.text (members_of s.table) s.table.nodes.items) s.root i.0 i.1 in
    ap (map (leaf_in c.args.self.now.text)) c.as_slice.ensures.value
    ∙ subst (λ (p : Parsed). map (leaf_in p.text) s.table.words.items ≡ script_leaves (tree_of p)) c.self.view_is
    (ranged-leaves c.words_are_told.ensures i.2.0 s.text i.0 s.table.words.items i.2.1 i.3 ∙ ap script_leaves (sym tree))
