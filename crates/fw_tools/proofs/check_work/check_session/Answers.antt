use Rattle.std.proofs.Common.{Global, List, ℕ, Bor, Vec, map, ap, option_map, ◌∙◌}
use Rattle.fw_arguments.specs.Checks.{environment_check_view}
use Rattle.fw_check.specs.Called.{given_with}
use Rattle.fw_check.specs.EntryPlaces.{text_view}
use Rattle.fw_check.specs.FileChecks.{scripts_view}
use Rattle.fw_tools.proofs.CheckLemmas.{checks-over}
use Rattle.fw_tools.specs.CheckRuns.{given_hardware}
use Rattle.fw_tools.proofs.check_work.check_session.Goals as goal

pub returns : goal.returns
returns g c =
    checks-over (g.X.System.holds c.args.rt.now) (environment_check_view c.args.asked.now) (option_map text_view c.args.text) c.args.session.now _ _ _ _ _ _ _ _ _ (scripts_view c.in_ok-scripts.scripts.items) c.check-end.result _ c.in_ok-given.ensures c.in_ok-known.ensures c.in_ok-scripts.ensures c.check-end.ensures
    (ap (λ v. v.env) c.vars.ensures)
    (c.rules_with.ensures ∙ ap (λ (items : List (Vec ℕ Global)). given_with c.args.asked.now.shell (option_map given_hardware c.in_ok-given.given) (map (λ n. n.items) items)) c.deref.ensures.value)
    (ap (λ (items : List (Bor (List ℕ))). map (λ n. n.now) items) c.deref-2.ensures.value ∙ c.in_ok-names.ensures) (ap scripts_view c.deref-3.ensures.value) c.leave.ensures.status c.leave.ensures.said
