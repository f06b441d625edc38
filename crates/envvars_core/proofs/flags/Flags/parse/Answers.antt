use Rattle.std.proofs.Common.{length, take, unwrap_or, ap, sym, ◌∙◌, rules, arith}
use Rattle.std.specs.List.{slice_split}
use Rattle.std.proofs.lemmas.Iterator.Splits.{YieldsList-from_slice_split}
use Rattle.std.proofs.lemmas.Iterator.Consumers.{YieldsList-turn, YieldsList-end}
use Rattle.std.proofs.lemmas.List.{length_push, take_all}
use Rattle.envvars_core.specs.Attributes.{is_comma, found_among, attributes_in, plain}
use Rattle.envvars_core.proofs.FlagLemmas.{last_first, found_more}
use Rattle.envvars_core.proofs.flags.Flags.parse.Goals as goal

pub loop-piece-preserved : goal.loop-piece-preserved
loop-piece-preserved c = λ n.
    let t = YieldsList-turn (YieldsList-from_slice_split _ is_comma c.args.text.now (cc) (cc) (cc) (λ x b q k. search rules)) c.loop-piece.yielded _ c.loop-piece.yielded_by _ _ c.in-Some.piece c.in-Some.is c.next.ensures.steps in
    let pieces = slice_split is_comma c.args.text.now in
    c.in_ok-add.ensures n ∙ found_more pieces (length c.loop-piece.yielded) c.in-Some.piece.now c.loop-piece.flags n t.0 t.1 (c.loop-piece.invariant n) ∙ ap (λ k. found_among (last_first (take k pieces)) n) (sym (length_push c.loop-piece.yielded c.in-Some.piece))

pub returns : goal.returns
unfolding attributes_in
returns c = λ n.
    let t = YieldsList-end (YieldsList-from_slice_split _ is_comma c.args.text.now (cc) (cc) (cc) (λ x b q k. search rules)) c.loop-piece.yielded _ c.loop-piece.yielded_by _ _ c.in-None.is c.next.ensures.steps in
    let pieces = slice_split is_comma c.args.text.now in
    ap (λ o. unwrap_or o plain) (c.loop-piece.invariant n ∙ ap (λ k. found_among (last_first (take k pieces)) n) t.1 ∙ ap (λ ps. found_among (last_first ps) n) (take_all (length pieces) pieces (omega arith)))
