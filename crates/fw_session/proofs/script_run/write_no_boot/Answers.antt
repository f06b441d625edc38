use Rattle.std.proofs.Common.{MatchBool, codes, ap, subst, sym, ◌∙◌}
use Rattle.std.specs.Io.KnownBytes.{Appends}
use Rattle.fw_engines.specs.Streams.{AppendsPart}
use Rattle.fw_session.specs.ScriptRun.{ended_by_itself, no_boot}
use Rattle.fw_session.proofs.script_run.write_no_boot.Goals as goal

pub returns-in-None : goal.returns-in-None
returns-in-None g c =
    let a = g.E.Write.contents c.args.errors.now in
    let b = g.E.Write.contents c.write_own_ending.new.errors in
    let outcome = c.args.course.now.outcome in
    subst (λ t. MatchBool c.write_own_ending.result (Appends a b t) (AppendsPart a b t))
    (ap (λ n. ended_by_itself (codes "fwenv: no boot: ") n outcome.status outcome.steps) c.name.ensures.name
    ∙ ap (λ d. no_boot outcome.ending c.args.course.now.place d outcome.status outcome.steps) (sym c.in-None.is))
    c.write_own_ending.ensures
