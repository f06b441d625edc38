use Rattle.std.proofs.Common.{map, subst, sym}
use Rattle.envcfg_core.specs.Entries.{entry_view}
use Rattle.fw_files.specs.Source.{IsRefused}
use Rattle.fw_files.proofs.DefaultsLemmas.{entry_refused}
use Rattle.fw_files.proofs.default_text.written_in.Goals as goal

pub returns-in-Err-clause-refused : goal.returns-in-Err-clause-refused
returns-in-Err-clause-refused c =
    let entries = map entry_view c.args.entries.now in
    subst (IsRefused c.args.room entries) (sym c.default_fault.ensures) (entry_refused c.args.room entries c.in-Err.line c.in-Err.refusal c.in-Err.ensures)
