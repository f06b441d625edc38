-- What the arguments of a subcommand ask for (docs/tools.md, "Subcommands over files").
use Rattle.std.specs.Prelude.{ℕ, ◌||◌, ◌&&◌, not, Bool, true, false, List, [], ◌∷◌, ◌++◌, Option, Some, None, Result, Ok, Err, option_map, codes, if◌then◌else◌}
use Rattle.std.specs.Borrow.{Bor}
use Rattle.std.specs.Str.{bytes_eq}
use Rattle.clap.specs.Words.{Row, Text, first_of}
use Rattle.envimg_core.specs.declared.geometry.Order.{Order}
use Rattle.fw_arguments.specs.DryRuns.{DryRun, ScriptRun, and_then, dry_run_of, dry_run_view, script_run_of, script_run_view}
pub use Rattle.fw_arguments.specs.DryRuns.{texts}
use Rattle.fw_arguments.specs.PowerOns.{PowerOns, power_ons_of, power_ons_view}
use Rattle.fw_arguments.specs.Checks.{EnvironmentCheck, environment_check_of, environment_check_view}
use Rattle.fw_arguments.specs.GivenTexts.{GivenText}
use Rattle.fw_arguments.specs.ImageSizes.{image_of, whole_text}
use Rattle.fw_arguments.specs.Values.{all_values, first_or, is_given}
use Rattle.fw_arguments.specs.WantedCopies.{wanted_copy_of}
use Rattle.fw_arguments.specs.Words.{either_order, order_by, source_in}
use Rattle.fw_arguments.specs.declared.call.Call as calls
use Rattle.fw_arguments.specs.declared.task.Printing.{Printing}
use Rattle.fw_arguments.specs.declared.task.Printing.TheVariants.{Lines, OneValue, Values}
use Rattle.fw_arguments.specs.declared.call.Defaults as defaults
use Rattle.fw_arguments.specs.declared.given_text.TextForm.{TextForm}
use Rattle.fw_arguments.specs.declared.given_text.TextForm.TheVariants.{Import as ImportText, Plain}
use Rattle.fw_arguments.specs.declared.call.LockFiles as locks
use Rattle.fw_arguments.specs.declared.call.LockFiles.TheVariants as lock
use Rattle.fw_arguments.specs.declared.job.Job as jobs
use Rattle.fw_arguments.specs.declared.job.Job.TheVariants as job
use Rattle.fw_arguments.specs.declared.task.Task as tasks
use Rattle.fw_arguments.specs.declared.task.Task.TheVariants as code
use Rattle.fw_arguments.specs.declared.wanted_copy.WantedCopy.{WantedCopy}

-- what a tool is to do: print these names in a way; set a name to words; apply a set script; import a file;
-- export; replace the variables by those of a file
pub data Task : Type 0 where
  Print : List Text → Printing → Task
  Set : Text → List Text → Task
  SetScript : Text → Task
  Import : Text → Task
  Export : Task
  Restore : Text → Task

-- what a subcommand does over its session: a tool works on it; blocks of script and dot lines are tried; a
-- script is run; a board is powered on from it and from what it stores then; its scripts are checked
pub data Job : Type 0 where
  Tool : Task → Job
  Tries : DryRun → Job
  Runs : ScriptRun → Job
  Boots : PowerOns → Job
  Checks : EnvironmentCheck → Job

-- the default environment: its text's path, if there is one; the text's form, and if that is plain lines the text is
-- /etc/u-boot-initial-env if no path is given and that file is there; whether a copy has to be good if there
-- is no text; and whether the text is the whole environment, so that no copy is missed
pub record Defaults : Type 0 where
  pub path : Option Text
  pub form : TextForm
  pub need_copy : Bool
  pub whole : Bool

-- the lock files: none; the one in this folder; the usual ones, of which one that is there has to be had; or the
-- usual ones as far as they can be had
pub data LockFiles : Type 0 where
  Nothing : LockFiles
  In : Text → LockFiles
  Usual : LockFiles
  IfPossible : LockFiles

-- a subcommand with its files: the configuration, the default environment and the lock files; the size of the erased
-- image in memory that replaces the configuration's copies, if there is one; the copy whose variables it takes; its
-- byte order; whether copies are written back only if a variable changed; whether copies may be written over that are
-- good in another way than the configuration has them; and what it does
pub record Call : Type 0 where
  pub config : Text
  pub image : Option ℕ
  pub copy : WantedCopy
  pub defaults : Defaults
  pub locks : LockFiles
  pub order : Order
  pub only_changes : Bool
  pub overwrite : Bool
  pub job : Job

-- whether a task changes the session
abbrev pub changes : Task → Bool
changes (Print names printing) = false
changes Export = false
changes task = true

-- whether a job may write the copies back
abbrev pub writes : Job → Bool
writes (Tool task) = changes task
writes (Tries run) = run.write
writes (Runs run) = run.dry.write
writes (Boots power_ons) = false
writes (Checks check) = false

-- whether it works under the lock under which the copies are read; a session takes that lock again to write
abbrev pub keeps_lock : Job → Bool
keeps_lock (Tool task) = changes task
keeps_lock (Tries run) = false
keeps_lock (Runs run) = run.dry.write
keeps_lock (Boots power_ons) = false
keeps_lock (Checks check) = false

-- whether a call writes copies back, and none that is good in another way than the configuration has it
abbrev pub spares : Call → Bool
spares call = writes call.job && not call.overwrite

-- the end of a message about wrong arguments: the right usage
abbrev pub usage : Text → Text
usage words = codes "Usage: " ++ words ++ 10 ∷ 10 ∷ codes "For more information, try '--help'." ++ 10 ∷ []

-- what is wrong with the arguments of setenv and of fw_setenv: a name and a script, or neither
abbrev pub setenv_words : Text
setenv_words = codes "fwenv setenv [OPTIONS] [NAME] [WORDS]..."

abbrev pub fw_setenv_words : Text
fw_setenv_words = codes "fw_setenv [OPTIONS] [NAME] [WORDS]..."

abbrev pub name_and_script : (option words : Text) → Text
name_and_script option words = codes "error: the argument '" ++ option ++ codes " <FILE>' cannot be used with '[NAME]'" ++ 10 ∷ 10 ∷ usage words

abbrev pub no_name : (option words : Text) → Text
no_name option words =
    codes "error: the following required arguments were not provided:" ++ 10 ∷ codes "  <NAME|" ++ option ++ codes " <FILE>>" ++ 10 ∷ 10 ∷ usage words

-- setenv takes a name or a script; two texts report what is wrong with other arguments
abbrev pub set_task : (both neither : Text) → Option Text → Option Text → List Text → Result Task Text
set_task both neither (Some name) (Some path) words = Err both
set_task both neither (Some name) None words = Ok (Set name words)
set_task both neither None (Some path) words = Ok (SetScript path)
set_task both neither None None words = Err neither

-- fw_printenv prints the values of any number of names, but at least one
abbrev pub no_names : Text
no_names =
    codes "error: the following required arguments were not provided:" ++ 10 ∷ codes "  <NAMES>..." ++ 10 ∷ 10 ∷ usage (codes "fw_printenv [OPTIONS] [NAMES]...")

abbrev pub values_task : List Text → Result Task Text
values_task [] = Err no_names
values_task (n ∷ names) = Ok (Print (n ∷ names) Values)

abbrev pub print_task : List Text → Bool → Result Task Text
print_task names true = values_task names
print_task names false = Ok (Print names Lines)

-- the task by the subcommand's name and what clap's rules found in its arguments, or the text for what is
-- wrong with them
abbrev pub tool_task : Text → List Row → Result Task Text
tool_task name rows =
    if bytes_eq name (codes "printenv") then Ok (Print (all_values (codes "names") rows) (if is_given (codes "value-only") rows then OneValue else Lines))
    else if bytes_eq name (codes "export") then Ok Export
    else if bytes_eq name (codes "import") then Ok (Import (first_or [] (codes "file") rows))
    else if bytes_eq name (codes "restore") then Ok (Restore (first_or [] (codes "file") rows))
    else set_task (name_and_script (codes "-s") setenv_words) (no_name (codes "-s") setenv_words) (first_of (codes "name") rows)
    (first_of (codes "script") rows) (all_values (codes "words") rows)

abbrev pub fw_setenv_task : List Row → Result Task Text
fw_setenv_task rows =
    set_task (name_and_script (codes "--script") fw_setenv_words) (no_name (codes "--script") fw_setenv_words) (first_of (codes "name") rows)
    (first_of (codes "script") rows) (all_values (codes "words") rows)

abbrev pub task_of : Text → List Row → Result Task Text
task_of name rows =
    if bytes_eq name (codes "fw_printenv") then print_task (all_values (codes "names") rows) (is_given (codes "value-only") rows)
    else if bytes_eq name (codes "fw_setenv") then fw_setenv_task rows
    else tool_task name rows

abbrev pub tried : Result DryRun Text → Result Job Text
tried (Ok run) = Ok (Tries run)
tried (Err text) = Err text

abbrev pub ran : Result ScriptRun Text → Result Job Text
ran (Ok run) = Ok (Runs run)
ran (Err text) = Err text

abbrev pub booted : Result PowerOns Text → Result Job Text
booted (Ok power_ons) = Ok (Boots power_ons)
booted (Err text) = Err text

abbrev pub checked : Result EnvironmentCheck Text → Result Job Text
checked (Ok check) = Ok (Checks check)
checked (Err text) = Err text

abbrev pub called : Result Task Text → Result Job Text
called (Ok task) = Ok (Tool task)
called (Err text) = Err text

-- what the subcommand of this name does, or the text for what is wrong with its arguments
abbrev pub job_of : Text → List Row → Result Job Text
job_of name rows =
    if bytes_eq name (codes "session") then tried (dry_run_of rows)
    else if bytes_eq name (codes "run") then ran (script_run_of rows)
    else if bytes_eq name (codes "boot") then booted (power_ons_of rows)
    else if bytes_eq name (codes "check") then checked (environment_check_of rows)
    else called (task_of name rows)

-- the names of other tools, which have their own rules
abbrev pub is_client : Text → Bool
is_client name = bytes_eq name (codes "fw_printenv") || bytes_eq name (codes "fw_setenv")

-- a text that is the whole environment is the default environment over an erased image
abbrev pub form_of : Text → TextForm
form_of name = if is_client name then Plain else ImportText

abbrev pub defaults_by : Option GivenText → Text → List Row → Defaults
defaults_by (Some text) name rows = record { path = Some text.path; form = text.form; need_copy = false; whole = true }
defaults_by None name rows = record {
  path = first_of (codes "default") rows;
  form = form_of name;
  need_copy = is_client name || is_given (codes "need-copy") rows;
  whole = false;
}

abbrev pub defaults_of : Text → List Row → Defaults
defaults_of name rows = defaults_by (whole_text name rows) name rows

-- fw_printenv and fw_setenv are told the folder of one lock file, or of none by an empty text
abbrev pub locks_in : Option Text → LockFiles
locks_in None = Usual
locks_in (Some []) = Nothing
locks_in (Some (b ∷ bs)) = In (b ∷ bs)

abbrev pub locks_of : Text → List Row → LockFiles
locks_of name rows = if is_client name then locks_in (first_of (codes "lock") rows) else IfPossible

-- a job with its files and its byte order
abbrev pub with_files : Order → Text → List Row → Option ℕ → WantedCopy → Job → Call
with_files order name rows image copy job = record {
  config = first_or (codes "/etc/fw_env.config") (codes "config") rows;
  image = image;
  copy = copy;
  defaults = defaults_of name rows;
  locks = locks_of name rows;
  order = either_order order (order_by (source_in (codes "big-endian") rows));
  only_changes = is_client name;
  overwrite = is_given (codes "overwrite") rows;
  job = job;
}

abbrev pub with_copy : Order → Text → List Row → Option ℕ → WantedCopy → Result Call Text
with_copy order name rows image copy = and_then (job_of name rows) (λ job. Ok (with_files order name rows image copy job))

abbrev pub with_image : Order → Text → List Row → Option ℕ → Result Call Text
with_image order name rows image = and_then (wanted_copy_of rows) (with_copy order name rows image)

-- what arguments that choose a byte order before the subcommand ask for
abbrev pub call_of : Order → Text → List Row → Result Call Text
call_of order name rows = and_then (image_of name rows) (with_image order name rows)

-- the code's answers, in this form
abbrev pub task_view : tasks.Task → Task
task_view (code.Print names printing) = Print (texts names) printing
task_view (code.Set name words) = Set name.now (texts words)
task_view (code.SetScript path) = SetScript path.now
task_view (code.Import path) = Import path.now
task_view code.Export = Export
task_view (code.Restore path) = Restore path.now

abbrev pub job_view : jobs.Job → Job
job_view (job.Tool task) = Tool (task_view task)
job_view (job.DryRun run) = Tries (dry_run_view run)
job_view (job.Script run) = Runs (script_run_view run)
job_view (job.Boot power_ons) = Boots (power_ons_view power_ons)
job_view (job.Check check) = Checks (environment_check_view check)

abbrev pub defaults_view : defaults.Defaults → Defaults
defaults_view d = record { path = option_map (λ p. p.now) d.path; form = d.form; need_copy = d.need_copy; whole = d.whole }

abbrev pub locks_view : locks.LockFiles → LockFiles
locks_view lock.Nothing = Nothing
locks_view (lock.In folder) = In folder.now
locks_view lock.Usual = Usual
locks_view lock.IfPossible = IfPossible

abbrev pub call_view : calls.Call → Call
call_view c = record {
  config = c.config.now;
  image = c.image;
  copy = c.copy;
  defaults = defaults_view c.defaults;
  locks = locks_view c.locks;
  order = c.order;
  only_changes = c.only_changes;
  overwrite = c.overwrite;
  job = job_view c.job;
}

abbrev pub seen : {A B : Type 0} → (A → B) → Result A (Bor Text) → Result B Text
seen view (Ok a) = Ok (view a)
seen view (Err text) = Err text.now
