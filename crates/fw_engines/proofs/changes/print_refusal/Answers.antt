use Rattle.std.proofs.Common.{◌++◌, append_assoc, subst}
use Rattle.envvars_core.specs.Refusals.{after_name}
use Rattle.fw_engines.specs.Streams.{AppendsPart}
use Rattle.fw_engines.proofs.WriteLemmas.{stopped_text}
use Rattle.fw_engines.proofs.changes.print_refusal.Goals as goal

pub returns-else-write_three : goal.returns-else-write_three
returns-else-write_three g c =
    let wrote = AppendsPart (g.E.Write.contents c.args.errors.now) (g.E.Write.contents c.write_three.new.writer) in
    let name = c.args.name.now in
    stopped_text c.stopped.result _ _ _ _ c.stopped.ensures
    (subst (λ front. wrote (front ++ (name ++ after_name c.args.refusal))) c.before_name.ensures
    (subst (λ back. wrote (c.before_name.result.now ++ (name ++ back))) c.after_name.ensures
    (subst wrote (append_assoc c.before_name.result.now name c.after_name.result.now) c.if-write_three.ensures)))
