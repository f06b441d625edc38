use Rattle.std.proofs.Common.{◌++◌, ℕ, ap, sym, ◌∙◌, codes}
use Rattle.std.proofs.lemmas.Result.{on_ok_weaker}
use Rattle.boot_search.specs.SurveyText.{several}
use Rattle.boot_search.proofs.Lists.{three_parts}
use Rattle.boot_search.proofs.PlaceLemmas.{steps_long}
use Rattle.boot_search.proofs.verdicts.push_summary.Goals as goal

pub returns : goal.returns
returns c =
    let so_far = c.push_several.new.text.items in
    let second = c.in_ok-push_several-2.ensures ∙ ap (λ (n : ℕ). so_far ++ several n (codes " way: ") (codes " ways: ")) (sym (steps_long c.args.ways.now)) in
    on_ok_weaker c.push_ends.result (λ third. three_parts _ _ _ _ _ _ _ c.in_ok-push_several.ensures second third) c.push_ends.ensures
