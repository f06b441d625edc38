use Rattle.std.proofs.Common.{◌≡◌, ◌+◌, ◌++◌, [], ◌∷◌, take, sym, ap, ◌∙◌}
use Rattle.std.specs.Prelude.{option_map}
use Rattle.std.proofs.lemmas.List.{take_more, length-take-le}
use Rattle.fw_session.proofs.NameLemmas.{found_here, found_before}
use Rattle.fw_session.proofs.mark_names.last_named.Goals as goal
use Rattle.fw_session.proofs.mark_names.last_named.Goals.{then-has_name, else-has_name}

pub loop-index-preserved : goal.loop-index-preserved
loop-index-preserved c =
    let names = c.args.names.now in
    let i = c.loop-index.index in
    let x = c.index-names-index.result in
    let e : take (i + 1) names ≡ take i names ++ x ∷ [] = take_more names i x c.loop-index-test.true ∙ ap (λ y. take i names ++ y ∷ []) (sym c.index-names-index.is) in
    elim c.if-has_name.branch [
      | then-has_name w ↦ w.found-is ∙ found_here (λ n. option_map (λ v. v.items) n) c.args.name.now (take i names) (take (i + 1) names) x i e (length-take-le i names c.loop-index.auto.index-end) (sym c.has_name.ensures ∙ w.if-has_name.true)
      | else-has_name w ↦
          w.found-is
          ∙ found_before (λ n. option_map (λ v. v.items) n) c.args.name.now (take i names) (take (i + 1) names) x c.loop-index.found e c.loop-index.invariant
          (sym c.has_name.ensures ∙ w.if-has_name.false)
    ]
