use Rattle.std.proofs.Common.{true, [], ◌∷◌, refl, ap, ◌∙◌}
use Rattle.hush_words.specs.Parts.{word_atoms}
use Rattle.hush_syntax.specs.Trees.{name_in, words_in}
use Rattle.hush_syntax.specs.Scripts.{subtree_at}
use Rattle.fw_check.specs.Gathering.{if_parts, link_parts, list_parts, operator_of, part}
use Rattle.fw_check.specs.Settings.{in_loop, in_turn, plain}
use Rattle.fw_check.proofs.GatherLemmas.{gather-nodes, list-parts, chain-parts, branches-parts, while-parts, until-parts, for-parts, assign-parts, simple-parts, gather-one}
use Rattle.fw_check.proofs.LeafLemmas.{assign-takes, for-takes, simple-takes}
use Rattle.fw_check.specs.declared.items.Item.TheVariants as item
use Rattle.fw_check.proofs.items.gather.Goals as goal

pub returns-in-List : goal.returns-in-List
returns-in-List c =
    let s = c.args.script.now in
    let p = c.args.part in
    let h = rw c.in-List.is at c.node.ensures in
    gather-nodes c.push_list.result s.text c.args.shows (subtree_at s) p (list_parts c.args.shows p.setting true c.in-List.chains.now) c.args.waiting.now c.push_list.new.self c.args.items.now.items c.args.coming.now
    (list-parts c.args.shows (subtree_at s) s.text p c.in-List.chains.now h.0 h.1 h.2) c.push_list.ensures

pub returns-in-Chain : goal.returns-in-Chain
returns-in-Chain c =
    let s = c.args.script.now in
    let p = c.args.part in
    let links = c.in-Chain.links.now in
    let h = rw c.in-Chain.is at c.node.ensures in
    gather-nodes c.push_links.result s.text c.args.shows (subtree_at s) p (link_parts p.setting (operator_of links) true links) c.args.waiting.now c.push_links.new.self c.args.items.now.items c.args.coming.now
    (chain-parts c.args.shows (subtree_at s) s.text p links h.0 h.1 h.2) c.push_links.ensures

pub returns-in-If : goal.returns-in-If
returns-in-If c =
    let s = c.args.script.now in
    let p = c.args.part in
    let h = rw c.in-If.is at c.node.ensures in
    gather-nodes c.push_if.result s.text c.args.shows (subtree_at s) p (if_parts p.setting true c.in-If.branches.now c.in-If.otherwise) c.args.waiting.now c.push_if.new.waiting c.args.items.now.items c.args.coming.now
    (branches-parts c.args.shows (subtree_at s) s.text p c.in-If.branches.now c.in-If.otherwise h.0 h.1 h.2 h.3 h.4) c.push_if.ensures

pub returns-in-While : goal.returns-in-While
returns-in-While c =
    let s = c.args.script.now in
    let p = c.args.part in
    let h = rw c.in-While.is at c.node.ensures in
    let parts = part c.in-While.condition (in_loop p.setting) ∷ part c.in-While.body (plain c.args.shows) ∷ [] in
    gather-nodes c.push_loop.result s.text c.args.shows (subtree_at s) p parts c.args.waiting.now c.push_loop.new.waiting c.args.items.now.items c.args.coming.now
    (while-parts c.args.shows (subtree_at s) s.text p c.in-While.condition c.in-While.body h.0 h.1 h.2 h.3 h.4) c.push_loop.ensures

pub returns-in-Until : goal.returns-in-Until
returns-in-Until c =
    let s = c.args.script.now in
    let p = c.args.part in
    let h = rw c.in-Until.is at c.node.ensures in
    let parts = part c.in-Until.condition (in_loop p.setting) ∷ part c.in-Until.body (plain c.args.shows) ∷ [] in
    gather-nodes c.push_loop-in-Until.result s.text c.args.shows (subtree_at s) p parts c.args.waiting.now c.push_loop-in-Until.new.waiting c.args.items.now.items c.args.coming.now
    (until-parts c.args.shows (subtree_at s) s.text p c.in-Until.condition c.in-Until.body h.0 h.1 h.2 h.3 h.4) c.push_loop-in-Until.ensures

pub returns-in_ok-push-in-For : goal.returns-in_ok-push-in-For
returns-in_ok-push-in-For c =
    let s = c.args.script.now in
    let p = c.args.part in
    let shows = c.args.shows in
    let h = rw c.in-For.is at c.node.ensures in
    let name = name_in s.text c.in-For.name in
    let own = c.in-For.words.now in
    let it = item.Binding p.setting c.take_one-name.result c.take-words.result in
    let takes = for-takes s.text shows p.setting (subtree_at s p.id) c.args.coming.now c.requires.begins name own h.0 h.1 c.take_one-name.result c.take_one-name.new.self c.take-words.result c.take-words.new.self
    c.take_one-name.ensures c.take-words.ensures.taken c.take-words.ensures.left in
    gather-one c.push_item.result s.text shows (subtree_at s) p it (part c.in-For.body (in_turn shows p.setting) ∷ []) c.args.waiting.now c.push.new.self c.args.items.now.items c.push_item.new.items.items
    c.args.coming.now c.take-words.new.self
    (for-parts shows (subtree_at s) s.text p c.in-For.body it name (words_in s.text own) h.0 c.args.coming.now c.take-words.new.self h.1 h.2 takes)
    (c.in_ok-push-in-For.ensures ∙ ap (λ st. part c.in-For.body st ∷ c.args.waiting.now) c.in_turn.ensures) takes.taken c.push_item.ensures

pub returns-in-Assign : goal.returns-in-Assign
returns-in-Assign c =
    let s = c.args.script.now in
    let p = c.args.part in
    let shows = c.args.shows in
    let h = rw c.in-Assign.is at c.node.ensures in
    let name = name_in s.text c.in-Assign.name in
    let value = word_atoms s.text c.in-Assign.value in
    let left = c.take_one-value.new.self in
    let it = item.Assignment p.setting c.take_one-name-in-Assign.result c.take_one-value.result in
    let takes = assign-takes s.text shows p.setting (subtree_at s p.id) c.args.coming.now c.requires.begins name value h c.take_one-name-in-Assign.result c.take_one-value.result c.take_one-name-in-Assign.new.self left
    c.take_one-name-in-Assign.ensures c.take_one-value.ensures in
    gather-one c.push_item-in-Assign.result s.text shows (subtree_at s) p it [] c.args.waiting.now c.args.waiting.now c.args.items.now.items c.push_item-in-Assign.new.items.items
    c.args.coming.now left
    (assign-parts shows (subtree_at s) s.text p it name value c.args.coming.now left h takes) refl takes.taken c.push_item-in-Assign.ensures

pub returns-in-Simple : goal.returns-in-Simple
returns-in-Simple c =
    let s = c.args.script.now in
    let p = c.args.part in
    let shows = c.args.shows in
    let h = rw c.in-Simple.is at c.node.ensures in
    let own = c.in-Simple.words.now in
    let left = c.take.new.self in
    let it = item.Call p.setting c.take.result in
    let takes = simple-takes s.text shows p.setting (subtree_at s p.id) c.args.coming.now c.requires.begins own h c.take.result left
    c.take.ensures.taken c.take.ensures.left in
    gather-one c.push_item-in-Simple.result s.text shows (subtree_at s) p it [] c.args.waiting.now c.args.waiting.now c.args.items.now.items c.push_item-in-Simple.new.items.items
    c.args.coming.now left
    (simple-parts shows (subtree_at s) s.text p it (words_in s.text own) c.args.coming.now left h takes) refl takes.taken c.push_item-in-Simple.ensures
