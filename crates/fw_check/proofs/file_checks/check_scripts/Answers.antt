use Rattle.std.proofs.Common.{false, ◌+◌, ◌∷◌, ap, drop, subst, sym, ◌∙◌}
use Rattle.std.proofs.lemmas.List.{drop_more}
use Rattle.fw_check.specs.FileChecks.{ReportsFiles, scripts_view}
use Rattle.fw_check.specs.Lines.{File}
use Rattle.fw_check.specs.Looking.{known_in, rules_in}
use Rattle.fw_check.specs.Origins.{Own}
use Rattle.fw_check.specs.Reports.{GoesOn}
use Rattle.fw_check.proofs.file_checks.check_scripts.Goals as goal

pub loop-script-preserved : goal.loop-script-preserved
loop-script-preserved c =
    let known = known_in c.args.lookups.now in
    let given = rules_in c.args.lookups.now in
    let scripts = c.args.scripts.now in
    let i = c.loop-script.script-index in
    let x = c.script-item.result in
    let before = c.loop-script.so_far in
    let after = c.in_ok-so_far.so_far in
    let cut = drop_more scripts i x c.loop-script-test.true ∙ ap (λ v. v ∷ drop (i + 1) scripts) (sym c.script-item.is) in
    let checked = subst (λ t. GoesOn known given (Own (File x.path.now)) false t before after) c.deref.ensures.value c.in_ok-so_far.ensures in
    λ final rest. c.loop-script.invariant final
    (subst (λ ss. ReportsFiles known given (scripts_view ss) before final) (sym cut) (after, checked, rest))
