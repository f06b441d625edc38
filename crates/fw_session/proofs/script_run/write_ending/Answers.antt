use Rattle.std.proofs.Common.{subst}
use Rattle.std.specs.Prelude.{MatchBool}
use Rattle.std.specs.Io.KnownBytes.{Appends}
use Rattle.fw_engines.specs.Streams.{AppendsPart}
use Rattle.fw_session.proofs.LimitLemmas.{itself_is, limit_is}
use Rattle.fw_session.proofs.script_run.write_ending.Goals as goal

pub returns-in-Steps : goal.returns-in-Steps
returns-in-Steps g c =
    let a = g.E.Write.contents c.args.errors.now in
    let b = g.E.Write.contents c.write_limit.new.errors in
    subst (λ text. MatchBool c.write_limit.result (Appends a b text) (AppendsPart a b text)) (limit_is c.args.ending c.args.place.now c.args.status c.args.steps _ c.in-Steps.is c.name-in-Steps.ensures.name) c.write_limit.ensures

pub returns-in-Finished : goal.returns-in-Finished
returns-in-Finished g c =
    let a = g.E.Write.contents c.args.errors.now in
    let b = g.E.Write.contents c.write_own_ending.new.errors in
    subst (λ text. MatchBool c.write_own_ending.result (Appends a b text) (AppendsPart a b text)) (itself_is c.args.ending c.args.place.now c.args.status c.args.steps _ c.in-Finished.is c.name.ensures.name) c.write_own_ending.ensures
