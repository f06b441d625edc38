use Rattle.std.proofs.Common.{arith, map, refl, sym, ◌∙◌}
use Rattle.std.proofs.lemmas.List.{length-map}
use Rattle.fw_tools.proofs.EntryPointLemmas.{alone_is_shown, replies_by, runs_by, shown_under}
use Rattle.fw_tools.proofs.entry_point.program.Goals as goal

pub returns-then-is_shown-clause-runs : goal.returns-then-is_shown-clause-runs
returns-then-is_shown-clause-runs g c =
    let under = shown_under c.of-name.result _ (sym c.is_shown.ensures ∙ c.if-is_shown.true) in
    alone_is_shown (g.X.System.holds c.args.rt.now) (g.X.System.wrote c.args.rt.now) (map g.S.AsStr.text c.args.words.now) _ _ _ c.show_input.result (sym c.of-name.ensures ∙ under.0)
    (omega (arith, length-map c.args.words.now g.S.AsStr.text, under.1)) refl c.show_input.ensures.shows

pub returns-in-Err-clause-runs : goal.returns-in-Err-clause-runs
returns-in-Err-clause-runs g c =
    replies_by (g.X.System.holds c.args.rt.now) (g.X.System.wrote c.args.rt.now) c.refused_status-refused.result c.of-name.result (map g.S.AsStr.text c.args.words.now) c.in-Err.error _ _ _ c.print_error.result c.refused_status-refused.ensures.status c.of-name.ensures c.in-Err.ensures.fails refl refl c.print_error.ensures.answers

pub returns-in-Ok-clause-runs : goal.returns-in-Ok-clause-runs
returns-in-Ok-clause-runs g c =
    runs_by (g.X.System.holds c.args.rt.now) (g.X.System.wrote c.args.rt.now) c.refused_status-refused.result c.of-name.result (map g.S.AsStr.text c.args.words.now) c.in-Ok.matches _ _ _ c.act_on.result c.refused_status-refused.ensures.status c.of-name.ensures c.in-Ok.ensures.fails c.in-Ok.ensures.order
    c.in-Ok.ensures.called c.act_on.ensures.does
