-- Why a text is refused, or an entry of a default environment.
use Rattle.std.proofs.Common.{ℕ, List}
use Rattle.envcfg_core.specs.Entries.{Entry, IsFaultOf, Outcome}
use Rattle.envcfg_core.specs.declared.entry.TextFault.{TextFault}
use Rattle.envcfg_core.specs.declared.entry.TextFault.TheVariants as text
use Rattle.envvars_core.specs.declared.refusals.Refusal.{Refusal}
use Rattle.envvars_core.specs.declared.refusals.Refusal.TheVariants.{BadForm, BadType, NoCreate, NoDelete, NoOverwrite, Full, Memory}
use Rattle.fw_engines.specs.Defaults.{RefusesDefaults}
use Rattle.fw_files.specs.Files.{IsTextFault, text_fault}
use Rattle.fw_files.specs.Source.{IsRefused, default_fault}

pub text_refused : (outcome : Outcome) (fault : TextFault) → IsFaultOf outcome fault → IsTextFault outcome (text_fault fault)
text_refused outcome (text.EmptyName line) is = is
text_refused outcome text.Nul is = is
text_refused outcome text.Memory is = tt

pub entry_refused : (room : ℕ) (entries : List Entry) (line : ℕ) (refusal : Refusal) → RefusesDefaults room entries line refusal → IsRefused room entries (default_fault line refusal)
entry_refused room entries line BadForm is = is
entry_refused room entries line BadType is = is
entry_refused room entries line NoCreate is = is
entry_refused room entries line NoDelete is = is
entry_refused room entries line NoOverwrite is = is
entry_refused room entries line Full is = is
entry_refused room entries line Memory is = tt
