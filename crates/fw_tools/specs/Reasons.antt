-- Which subcommands report why a file can't be used (docs/tools.md, "Subcommands over files").
use Rattle.std.specs.Prelude.{if◌then◌else◌}
use Rattle.fw_arguments.specs.Calls.{Boots, Call, Checks, Job, Runs, Task, Tool, Tries}
use Rattle.fw_arguments.specs.Calls as calls
use Rattle.fw_arguments.specs.Report.{Asked, Work}
use Rattle.fw_tools.specs.declared.explains.Explains.{Explains}
use Rattle.fw_tools.specs.declared.explains.Explains.TheVariants as line

-- of the tools only `restore`: the texts of the others are fixed to the byte
abbrev pub explains_task : Task → Explains
explains_task (calls.Restore path) = line.Reason
explains_task task = line.Nothing

abbrev pub explains_job : Job → Explains
explains_job (Tool task) = explains_task task
explains_job (Tries run) = line.Nothing
explains_job (Runs run) = line.Reason
explains_job (Boots power_ons) = line.Reason
explains_job (Checks check) = line.Reason

-- and each tool under the names fw_printenv and fw_setenv, the only ones that save nothing but changes
abbrev pub explains : Call → Explains
explains call = if call.only_changes then line.Reason else explains_job call.job

-- what opens no session always reports it
abbrev pub explains_asked : Asked → Explains
explains_asked (Work call) = explains call
explains_asked asked = line.Reason
