use Rattle.std.proofs.Common.{◌<◌, ◌∷◌, ◌∙◌, subst, sym}
use Rattle.hush_syntax.specs.Scripts.{subtree_at, tree_of}
use Rattle.fw_check.specs.Gathering.{part, size_at}
use Rattle.fw_check.specs.Statements.{of_script}
use Rattle.fw_check.proofs.GatherLemmas.{StillGathers, begun-at, begun-none, gather-next, gather-smaller}
use Rattle.fw_check.proofs.items.items_from.Goals.{in-Some+in_ok-push, in_default}
use Rattle.fw_check.proofs.items.items_from.Goals as goal

pub loop-part-smaller : goal.loop-part-smaller
loop-part-smaller c =
    let s = c.args.script.now in
    subst (λ w. size_at (subtree_at s) c.gather.new.waiting < size_at (subtree_at s) w) (sym c.in-Some-pop.ensures.some)
    (gather-smaller s.text c.shows_status-shows.result (subtree_at s) c.loop-part.items.items c.gather.new.items.items c.loop-part.coming c.gather.new.coming c.in-Some-pop.part c.pop.new.self c.gather.new.waiting c.in_ok-gather.ensures)

pub loop-part-preserved : goal.loop-part-preserved
loop-part-preserved c =
    let s = c.args.script.now in
    let shows = c.shows_status-shows.result in
    let all = of_script shows c.args.asked (tree_of s) in
    let words = c.args.words.now in
    gather-next s.text shows (subtree_at s) all words c.loop-part.items.items c.gather.new.items.items c.loop-part.coming c.gather.new.coming c.in-Some-pop.part c.pop.new.self c.gather.new.waiting
    (subst (StillGathers s.text shows (subtree_at s) all words c.loop-part.items.items c.loop-part.coming) c.in-Some-pop.ensures.some c.loop-part.invariant) c.in_ok-gather.ensures

pub loop-part-init : goal.loop-part-init
loop-part-init c =
    let s = c.args.script.now in
    let shows = c.shows_status-shows.result in
    elim c.match-root.branch [
      | in-Some+in_ok-push w ↦
          begun-at s.text shows (subtree_at s) c.args.asked (tree_of s) c.args.words.now c.requires c.new-items.result.items c.new-coming.result c.match-root.waiting c.new-items.ensures.items c.new-coming.ensures
          w.in-Some.root w.in-Some.ensures.0
          (w.waiting-is ∙ w.in_ok-push.ensures ∙ (λ i. part w.in-Some.root (w.beginning.ensures i) ∷ c.new-waiting.ensures i)) w.in-Some.ensures.1 w.in-Some.ensures.2
      | in_default w ↦
          begun-none s.text shows (subtree_at s) c.args.asked (tree_of s) c.args.words.now c.requires c.new-items.result.items c.new-coming.result c.match-root.waiting c.new-items.ensures.items c.new-coming.ensures
          (w.waiting-is ∙ c.new-waiting.ensures) w.in_default.ensures
    ]
