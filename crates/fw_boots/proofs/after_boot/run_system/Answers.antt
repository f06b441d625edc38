use Rattle.std.proofs.Common.{ap, ◌∙◌, map}
use Rattle.env_session.specs.Session.{Held, undone}
use Rattle.env_requests.specs.Views.{rules_of}
use Rattle.hush_syntax.specs.Scripts.{tree_of}
use Rattle.boot_search.specs.Outcomes.{given_of}
use Rattle.fw_boots.specs.Cuts.{cutting_of}
use Rattle.fw_boots.specs.PowerOns.{run_over, still_boots}
use Rattle.fw_boots.proofs.after_boot.run_system.Goals as goal

pub returns : goal.returns
unfolding undone
returns c =
    c.still_boots.ensures ∙ ap (still_boots c.args.by.items)
    (c.in_ok-turn.ensures.turn ∙ ap (λ (h : Held). run_over (cutting_of c.args.boot.now.cuts) (map given_of c.args.answers.now) (rules_of c.args.rules) (tree_of c.args.script.now) (undone 0 h)) c.in_ok-session.ensures)
