use Rattle.std.proofs.Common.{◌+◌, ◌∷◌, ap, drop, map, subst, sym, ◌∙◌}
use Rattle.std.specs.Prelude.{option_map}
use Rattle.std.proofs.lemmas.List.{drop_more}
use Rattle.fw_check.specs.Checking.{Reports, origin_in, script_in}
use Rattle.fw_check.specs.EntryPlaces.{text_view}
use Rattle.fw_check.specs.Following.{is_among}
use Rattle.fw_check.specs.Looking.{known_in, rules_in}
use Rattle.fw_check.specs.Reports.{GoesOn}
use Rattle.fw_check.proofs.VisitLemmas.{report-first}
use Rattle.fw_check.proofs.visits.report_all.Goals as goal

pub loop-name-preserved : goal.loop-name-preserved
loop-name-preserved c =
    let env = c.args.vars.now.env in
    let file = option_map text_view c.args.file in
    let known = known_in c.args.lookups.now in
    let given = rules_in c.args.lookups.now in
    let asked = is_among c.args.asked.now.names in
    let names = c.args.names.now in
    let i = c.loop-name.name-index in
    let x = c.name-item.result in
    let before = c.loop-name.so_far in
    let after = c.in_ok-so_far.so_far in
    let cut = drop_more names i x c.loop-name-test.true ∙ ap (λ v. v ∷ drop (i + 1) names) (sym c.name-item.is) in
    let said = c.has.ensures ∙ ap asked c.deref.ensures.value in
    let named = subst (λ n. GoesOn known given (origin_in before file n) c.has.result (script_in env n) before after) c.deref-in-loop-name.ensures.value c.in_ok-so_far.ensures in
    let checked = subst (λ b. GoesOn known given (origin_in before file x.items) b (script_in env x.items) before after) said named in
    λ final rest. c.loop-name.invariant final
    (subst (λ vs. Reports env file known given asked (map (λ n. n.items) vs) before final) (sym cut)
    (report-first file known given asked env x.items (map (λ n. n.items) (drop (i + 1) names)) before after final checked rest))
