use Rattle.std.proofs.Common.{true, ap, subst, ◌∙◌, map, false}
use Rattle.std.specs.Prelude.{OnOk}
use Rattle.std.specs.List.{flat_map}
use Rattle.fw_check.specs.Checking.{AreFollowed, script_in}
use Rattle.fw_check.specs.FileChecks.{script_texts, scripts_view}
use Rattle.fw_check.specs.Following.{Followed, follow_fronts}
use Rattle.fw_check.specs.Looking.{rules_in}
use Rattle.fw_check.specs.Naming.{asked_in}
use Rattle.fw_check.proofs.FollowLemmas.{fronts-env}
use Rattle.fw_check.proofs.asking.follow_asked.Goals as goal

pub ask_at_ends-requires : goal.ask_at_ends-requires
ask_at_ends-requires c =
    let given = rules_in c.args.lookups.now in
    let env = c.args.vars.now.env in
    let files = flat_map (asked_in given false) (script_texts (scripts_view c.args.scripts.now)) in
    let fronts = flat_map (λ name. asked_in given false (script_in env name)) (map (λ n. n.items) c.args.visited.now) in
    ap (λ (f : Followed). f.env) c.in_ok-ask_in_all.ensures ∙ fronts-env c.ask_in_files.new.asked fronts ∙ ap (λ (f : Followed). f.env) c.in_ok-ask_in_files.ensures
    ∙ fronts-env c.args.asked.now files ∙ ap (λ (f : Followed). f.env) c.requires

pub returns : goal.returns
returns c =
    let given = rules_in c.args.lookups.now in
    let env = c.args.vars.now.env in
    let files = flat_map (asked_in given false) (script_texts (scripts_view c.args.scripts.now)) in
    let fronts = flat_map (λ name. asked_in given false (script_in env name)) (map (λ n. n.items) c.args.visited.now) in
    let first = c.in_ok-ask_in_files.ensures ∙ ap (λ (f : Followed). follow_fronts f files) c.requires in
    subst (λ (f : Followed). OnOk c.ask_at_ends.result (AreFollowed (asked_in given true) f 0 c.ask_at_ends.new.asked.names))
    (c.in_ok-ask_in_all.ensures ∙ ap (λ (f : Followed). follow_fronts f fronts) first) c.ask_at_ends.ensures
