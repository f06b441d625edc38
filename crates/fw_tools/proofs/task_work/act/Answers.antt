use Rattle.std.proofs.Common.{List, map, refl, subst, sym}
use Rattle.envcfg_core.specs.Entries.{entry_view}
use Rattle.envimg_core.specs.Pieces.{Entry}
use Rattle.fw_arguments.specs.Calls.{task_view}
use Rattle.fw_arguments.specs.declared.task.Task.{Task}
use Rattle.fw_engines.specs.Changes.{Changes, LacksMemory, pair_of, script_effect}
use Rattle.fw_tools.specs.Subcommands.{Acts}
use Rattle.fw_tools.proofs.SubcommandLemmas.{pairs_in}
use Rattle.fw_tools.proofs.task_work.act.Goals as goal

pub returns-in_ok-entries-in-SetScript : goal.returns-in_ok-entries-in-SetScript
returns-in_ok-entries-in-SetScript g c =
    let session = c.args.session.now in
    let of : List Entry → Type 0 = λ es.
    Changes (record { session = session; errors = g.E.Write.contents c.args.errors.now }) (record { session = c.set_script.new.session; errors = g.E.Write.contents c.set_script.new.errors })
    (script_effect session es) (LacksMemory session es 0) c.set_script.result in
    let old = subst of (sym (pairs_in c.deref-in-SetScript.result.now)) c.set_script.ensures in
    let entries = c.in_ok-entries-in-SetScript.entries.items in
    subst
    (λ (t : Task). Acts (g.X.System.holds c.args.rt.now) (task_view t)
    (record { session = session; writers = record { output = g.W.Write.contents c.args.output.now; errors = g.E.Write.contents c.args.errors.now } })
    (record { session = c.set_script.new.session; writers = record { output = g.W.Write.contents c.args.output.now; errors = g.E.Write.contents c.set_script.new.errors } })
    c.set_script.result)
    (sym c.in-SetScript.is)
    (map entry_view entries, (c.in_ok-entries-in-SetScript.ensures.read, (refl, subst (λ es. of (map pair_of (map entry_view es))) c.deref-in-SetScript.ensures.value old)))
