use Rattle.std.proofs.Common.{subst, sym}
use Rattle.envcfg_core.specs.SetScript.{set_script_of}
use Rattle.fw_files.specs.Files.{IsTextFault}
use Rattle.fw_files.proofs.DefaultsLemmas.{text_refused}
use Rattle.fw_files.proofs.files.script_from.Goals as goal

pub returns-in-Err-clause-refused : goal.returns-in-Err-clause-refused
returns-in-Err-clause-refused c =
    subst (IsTextFault (set_script_of c.args.text.now)) (sym c.text_fault.ensures) (text_refused (set_script_of c.args.text.now) c.in-Err.fault c.in-Err.ensures.refused)
