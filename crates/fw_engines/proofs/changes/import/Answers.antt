use Rattle.std.proofs.Common.{arith, map}
use Rattle.env_session.specs.Requests.{entry_in}
use Rattle.fw_engines.specs.Changes.{LacksMemoryToImport}
use Rattle.fw_engines.proofs.ChangeLemmas.{at_save, drop_none, in_import, ran_out}
use Rattle.fw_engines.proofs.changes.import.Goals as goal

pub returns-in-Memory : goal.returns-in-Memory
returns-in-Memory g c =
    let es = map entry_in c.args.entries.now in
    let old = c.args.session.now in
    ran_out c.stopped.result _ old _ _ (LacksMemoryToImport old es) c.stopped.ensures
    (c.import-report.result.refused, in_import old _ _ es c.import-report.result.done c.import-report.ensures.session (c.import-report.ensures.growing c.in-Memory.is))

pub returns-in-Err : goal.returns-in-Err
returns-in-Err g c =
    let es = map entry_in c.args.entries.now in
    let old = c.args.session.now in
    ran_out c.stopped-in-Err.result _ old _ _ (LacksMemoryToImport old es) c.stopped-in-Err.ensures (
      c.import-report.result.refused,
      at_save old _ _ _ es c.import-report.result.done c.import-report.ensures.session
          (drop_none entry_in c.args.entries.now c.import-report.result.done (omega (arith, c.import-report.ensures.all c.in-Done.is))) c.in-Err.ensures.refused_only c.in-Err.ensures.unchanged,
    )
