use Rattle.std.proofs.Common.{ap, ◌∙◌, List, map}
use Rattle.boot_search.specs.Outcomes.{Given, Outcome, given_of}
use Rattle.env_session.specs.Session.{Held, undone}
use Rattle.env_requests.specs.Views.{rules_of}
use Rattle.hush_syntax.specs.Scripts.{tree_of}
use Rattle.hush_commands.specs.Hardware.{hardware}
use Rattle.hush_commands.specs.declared.board_rules.Rule.{Rule}
use Rattle.hush_run.specs.Meaning.{Rules}
use Rattle.hush_run.specs.Runs.{rules_in}
use Rattle.fw_boots.specs.Boots.{outcome_over, over_of, power_of, trees_of}
use Rattle.fw_boots.specs.Cuts.{cutting_of}
use Rattle.fw_boots.specs.PowerOns.{before_boot, power_on, with_after}
use Rattle.fw_boots.proofs.PowerLemmas.{holds, turned}
use Rattle.fw_boots.proofs.powered_board.PoweredBoardPowered.power_on.Goals as goal

pub returns-clause-turn : goal.returns-clause-turn
returns-clause-turn c =
    let boot = c.args.self.now.boot in
    let answers = map given_of c.args.answers.now in
    let held = undone 0 c.args.self.now.session in
    let of : Rules → Outcome → Outcome = λ r o. with_after (cutting_of boot.cuts) r (over_of boot) (trees_of boot) answers o in
    let over : Rules → List Given → Outcome = λ r a. power_on (cutting_of boot.cuts) a boot.counts r (tree_of boot.script.now) held in
    let given = ap (λ (b : List Rule). rules_in boot.rules.shell (hardware b boot.rules.stand_ins.now) boot.rules.limits.now) c.in_ok-board.ensures in
    turned c.with_after.result _ _ c.with_after.ensures (ap (of _) (c.in_ok-turn.ensures.turn ∙ ap (over _) c.before_boot.ensures) ∙ ap (λ (r : Rules). of r (over r (before_boot answers))) given)

pub returns-clause-same : goal.returns-clause-same
returns-clause-same c = holds c.with_after.result _ (ap (λ (h : Held). outcome_over (power_of c.args.self.now.boot) h) c.in_ok-turn.ensures.same)
