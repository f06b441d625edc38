use Rattle.std.proofs.Common.{arith, Some, sym, ◌∙◌, ◌+◌, ◌<◌, ◌≤◌, length, drop, length-drop}
use Rattle.std.proofs.lemmas.Bool.{ltb-true}
use Rattle.envvars_store.proofs.CompareLemmas.{found_behind, rises_longer, rises_byte}
use Rattle.envvars_store.proofs.EntryLemmas.{rest_first}
use Rattle.envvars_store.proofs.extents.rising_end.Goals as goal
use Rattle.envvars_store.proofs.extents.rising_end.Goals.{then-same-last, else-same-last}

pub returns-then-piece-same-clause-found : goal.returns-then-piece-same-clause-found
returns-then-piece-same-clause-found c =
    found_behind 61 c.args.piece.now c.args.last.now c.shared-same.result c.in_ok-more.more c.shared-same.ensures c.requires
    (rest_first 61 c.args.piece.now c.shared-same.result (Some c.in_ok-more.more) c.in_ok-more.ensures)

pub returns-then-piece-same-clause-rising : goal.returns-then-piece-same-clause-rising
returns-then-piece-same-clause-rising c =
    let xs = c.args.piece.now in
    let ys = c.args.last.now in
    let s = c.shared-same.result in
    let k = c.in_ok-more.more in
    let shared = c.shared-same.ensures in
    let first = shared.first in
    let second = shared.second in
    let found = rest_first 61 xs s (Some k) c.in_ok-more.ensures in
    let high : k < length (drop s xs) = found.0.high in
    let within : s + k ≤ length xs = omega (arith, length-drop s xs) in
    elim c.if-same-last.branch [ then-same-last w ↦ rises_longer xs ys s k shared (omega arith) within w.if-same-last.true | else-same-last w ↦ rises_byte xs ys s k shared (omega arith) within (omega (arith, w.if-same-last.false)) (ltb-true _ _ (sym w.value-is ∙ c.if-piece-same.true)) ]
