use Rattle.env_session.specs.Requests.{entry_in}
use Rattle.fw_engines.proofs.ChangeLemmas.{change_of_entry}
use Rattle.fw_engines.proofs.changes.write_entry.Goals as goal

pub returns-in-Err-clause-growing : goal.returns-in-Err-clause-growing
returns-in-Err-clause-growing c =
    change_of_entry c.args.session.now _ (entry_in c.args.entry.now).0 _ (entry_in c.args.entry.now).1 c.deref.ensures.value c.value_bytes.ensures c.in-Err.ensures.growing
