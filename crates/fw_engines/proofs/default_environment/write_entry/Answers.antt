use Rattle.std.specs.Option.{option_copied}
use Rattle.envcfg_core.specs.Entries.{entry_view}
use Rattle.fw_engines.proofs.DefaultsLemmas.{not_refused, same_refused, same_accepted}
use Rattle.fw_engines.proofs.default_environment.write_entry.Goals as goal

pub returns-in-Ok-clause-refused : goal.returns-in-Ok-clause-refused
returns-in-Ok-clause-refused c =
    not_refused c.args.vars.now.env c.args.none.now.env c.args.vars.now.room c.deref.result.now (option_copied c.value_bytes.result) (entry_view c.args.entry.now) c.in-Ok._was
    c.deref.ensures.value c.value_bytes.ensures c.in-Ok.ensures.refused

pub returns-in-Err-clause-refused : goal.returns-in-Err-clause-refused
returns-in-Err-clause-refused c =
    same_refused _ c.args.vars.now.env c.args.none.now.env c.args.vars.now.room c.deref.result.now (option_copied c.value_bytes.result) (entry_view c.args.entry.now) c.in-Err.refusal
    c.deref.ensures.value c.value_bytes.ensures c.in-Err.ensures.refused

pub returns-in-Err-clause-accepted : goal.returns-in-Err-clause-accepted
returns-in-Err-clause-accepted c =
    same_accepted c.args.vars.now.env c.args.none.now.env c.args.vars.now.room c.deref.result.now (option_copied c.value_bytes.result) (entry_view c.args.entry.now) _
    c.deref.ensures.value c.value_bytes.ensures c.in-Err.ensures.accepted
