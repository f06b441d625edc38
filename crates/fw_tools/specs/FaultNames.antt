-- The names of faults, as they are printed (docs/texts.md; docs/runs.md, "Stand-ins"; docs/variables.md).
use Rattle.std.specs.Prelude.{ℕ, List, Option, Some, None, codes}
use Rattle.envcfg_core.specs.declared.config.ConfigFault.{ConfigFault}
use Rattle.envcfg_core.specs.declared.config.ConfigFault.TheVariants as config
use Rattle.envcfg_core.specs.declared.entry.TextFault.{TextFault}
use Rattle.envcfg_core.specs.declared.entry.TextFault.TheVariants as text
use Rattle.envvars_core.specs.declared.refusals.Refusal.{Refusal}
use Rattle.envvars_core.specs.declared.refusals.Refusal.TheVariants.{BadForm, BadType, NoCreate, NoDelete, NoOverwrite, Full, Memory}
use Rattle.fw_tools.specs.declared.fault_names.NamedFault.{NamedFault}
use Rattle.hush_commands.specs.declared.stand_in_line.StubFault.{StubFault}
use Rattle.hush_commands.specs.declared.stand_in_line.StubFault.TheVariants as stub

-- a fault's name, and the number of the line that it is in, if it is in one
abbrev pub Named : Type 0
Named = List ℕ × Option ℕ

abbrev pub named_view : NamedFault → Named
named_view fault = (fault.name.now, fault.line)

-- of a configuration
abbrev pub config_fault : ConfigFault → Named
config_fault config.NoCopy = (codes "NoCopy", None)
config_fault (config.Size line) = (codes "Size", Some line)
config_fault config.Unequal = (codes "Unequal", None)
config_fault config.Overlap = (codes "Overlap", None)
config_fault (config.NotUtf8 line) = (codes "NotUtf8", Some line)
config_fault config.Memory = (codes "Memory", None)

-- of a text for import, and of a set script
abbrev pub text_fault : TextFault → Named
text_fault (text.EmptyName line) = (codes "EmptyName", Some line)
text_fault text.Nul = (codes "Nul", None)
text_fault text.Memory = (codes "Memory", None)

-- of a stand-in file
abbrev pub stub_fault : StubFault → Named
stub_fault (stub.Line line) = (codes "Line", Some line)
stub_fault (stub.Builtin line) = (codes "Builtin", Some line)
stub_fault (stub.Twice line) = (codes "Twice", Some line)
stub_fault stub.Memory = (codes "Memory", None)

-- of an entry that is refused in this line of a default environment
abbrev pub refusal_name : Refusal → List ℕ
refusal_name BadForm = codes "BadForm"
refusal_name BadType = codes "BadType"
refusal_name NoCreate = codes "NoCreate"
refusal_name NoDelete = codes "NoDelete"
refusal_name NoOverwrite = codes "NoOverwrite"
refusal_name Full = codes "Full"
refusal_name Memory = codes "Memory"

abbrev pub refused_entry : (line : ℕ) → Refusal → Named
refused_entry line refusal = (refusal_name refusal, Some line)
