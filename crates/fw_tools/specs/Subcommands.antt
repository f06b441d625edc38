-- What a subcommand does over a session, and what it prints (docs/tools.md, "Subcommands over files").
use Rattle.std.specs.Prelude.{◌≡◌, ◌⊎◌, ℕ, ◌==◌, ◌&&◌, not, Bool, true, false, if◌then◌else◌, List, map, Option, Some, None, Result, Ok, Err, ⊤}
use Rattle.std.specs.FinMap as env
use Rattle.env_session.specs.Session.{Held, last_changed_names}
use Rattle.envimg_core.specs.declared.choice.Choice.{Choice}
use Rattle.envimg_core.specs.declared.choice.Choice.TheVariants.{Neither, Second}
use Rattle.envcfg_core.specs.Entries as text_entries
use Rattle.clap.specs.Words.{Text}
use Rattle.fw_arguments.specs.Calls.{Boots, Call, Checks, Defaults, Job, Tool, Tries, Runs, Task, changes, keeps_lock, spares, writes}
use Rattle.fw_check.specs.EntryPlaces.{EnvironmentText}
use Rattle.fw_tools.specs.CheckRuns.{ChecksFile, ChecksOver, environment_text, unchecked}
use Rattle.fw_tools.specs.Closing.{Closes}
use Rattle.fw_tools.specs.CopyReport.{HaltsAfterLocks, ReportsOn}
use Rattle.fw_arguments.specs.Report.{Asked, Check, Find, Look, Make, Work}
use Rattle.fw_files.specs.Opening.{IsOpening}
use Rattle.fw_files.specs.Source.{IsTaken, KeptText, lacks_copy, warned}
use Rattle.fw_files.specs.Locks.{HasWaited}
use Rattle.fw_tools.specs.HaltLines.{SaysHalt}
use Rattle.fw_tools.specs.Reasons.{explains_asked}
use Rattle.fw_tools.specs.Said.{AreSame}
use Rattle.fw_tools.specs.declared.halt.Halt.{Halt}
use Rattle.fw_tools.specs.declared.halt.Halt.TheVariants.{Files}
use Rattle.fw_files.specs.WrittenBack.{AreLeft, Devices}
use Rattle.fw_files.specs.declared.source.Source.{Source}
use Rattle.fw_files.specs.declared.stop.Stop.{Stop}
use Rattle.fw_engines.specs.TextForm.{export_texts}
use Rattle.fw_engines.specs.VariableLines.{named, printed}
use Rattle.envimg_core.specs.Environment.{Environment}
use Rattle.fw_files.specs.declared.system.Hold.{Hold}
use Rattle.fw_files.specs.declared.system.Hold.TheVariants.{Alone, Shared}
use Rattle.fw_arguments.specs.declared.task.Printing.{Printing}
use Rattle.fw_arguments.specs.declared.task.Printing.TheVariants.{Lines, OneValue, Values}
use Rattle.fw_engines.specs.Changes.{Changes, Changing, Effect, LacksMemory, LacksMemoryToName, LacksMemoryToSet, named_import_effect, pair_of, script_effect, set_effect}
use Rattle.fw_engines.specs.Restoration.{LacksMemoryToRestore, restore_effect}
use Rattle.text_parts.specs.Words.{spaced}
use Rattle.fw_tools.specs.Dumps.{Finds}
use Rattle.fw_tools.specs.NewImages.{MakesImage}
use Rattle.fw_tools.specs.NoSession.{IsCopiesStop, IsOpeningStop}
use Rattle.fw_tools.specs.SessionRun.{TriesOver}
use Rattle.fw_tools.specs.PowerOns.{BootsOver}
use Rattle.fw_tools.specs.ScriptRuns.{HaltsRun, RunsOver}
use Rattle.fw_engines.specs.Streams.{AppendsFront, Streams, Writers, writers_of}
use Rattle.fw_engines.specs.Tool.{Printed, Texts}
use Rattle.fw_engines.specs.declared.tool_end.ToolEnd.{ToolEnd}
use Rattle.fw_files.specs.FileTexts.{Holds}
use Rattle.fw_files.specs.Files.{AreImportedAt, AreSetAt}

-- a session, and what two writers hold
pub record Scene : Type 0 where
  pub session : Held
  pub writers : Writers

-- a tool that prints and changes nothing
abbrev pub PrintsAll : Scene → Scene → Texts → ToolEnd → Type 0
PrintsAll old new texts end = (new.session ≡ old.session) × Printed end.fault old.writers new.writers texts end.status

-- a tool that changes the session, and prints only on standard error
abbrev pub changing : Scene → Changing
changing s = record { session = s.session; errors = s.writers.errors }

abbrev pub ChangesAll : Scene → Scene → Effect → (Held → Type 0) → ToolEnd → Type 0
ChangesAll old new effect lacks end = (new.writers.output ≡ old.writers.output) × Changes (changing old) (changing new) effect lacks end

-- the entries of the set script at a path
abbrev pub SetsFrom : Holds → (path : Text) → Scene → Scene → (entries : List text_entries.Entry) → ToolEnd → Type 0
SetsFrom holds path old new entries end =
    AreSetAt holds path entries
    × ChangesAll old new (script_effect old.session (map pair_of entries)) (LacksMemory old.session (map pair_of entries) 0) end

-- the entries of the text for import at a path, written one after the other, or in the place of all variables
abbrev pub ImportsFrom : Holds → (path : Text) → Scene → Scene → (entries : List text_entries.Entry) → ToolEnd → Type 0
ImportsFrom holds path old new entries end =
    AreImportedAt holds path entries
    × ChangesAll old new (named_import_effect old.session entries) (LacksMemoryToName old.session (map pair_of entries)) end

abbrev pub RestoresFrom : Holds → (path : Text) → Scene → Scene → (entries : List text_entries.Entry) → ToolEnd → Type 0
RestoresFrom holds path old new entries end =
    AreImportedAt holds path entries × ChangesAll old new (restore_effect old.session entries) (LacksMemoryToRestore old.session entries) end

-- names printed in a way
abbrev pub printed_so : Printing → Environment → List Text → Texts
printed_so Lines env names = printed env names false
printed_so OneValue env names = printed env names true
printed_so Values env names = named true env names

-- a task done; of the text in a file that it reads all entries count
abbrev pub Acts : Holds → Task → Scene → Scene → ToolEnd → Type 0
Acts holds (Task.Print names printing) old new end = PrintsAll old new (printed_so printing old.session.now.env names) end
Acts holds (Task.Set name words) old new end = ChangesAll old new (set_effect old.session name (spaced words)) (LacksMemoryToSet old.session name words) end
Acts holds (Task.SetScript path) old new end = (entries : List text_entries.Entry) × SetsFrom holds path old new entries end
Acts holds (Task.Import path) old new end = (entries : List text_entries.Entry) × ImportsFrom holds path old new entries end
Acts holds Task.Export old new end = PrintsAll old new (export_texts old.session.now.env) end
Acts holds (Task.Restore path) old new end = (entries : List text_entries.Entry) × RestoresFrom holds path old new entries end

-- a job that writes the copies back locks their device exclusively, already while it reads them
abbrev pub hold_for : Job → Hold
hold_for job = if writes job then Alone else Shared

-- a job keeps the locks on its copies, if they are in devices, until it has written them
abbrev pub keeps_locks : (image : Option ℕ) → Job → Bool
keeps_locks None job = keeps_lock job
keeps_locks (Some size) job = false

-- the copies are left as they are by a task that changes nothing, and by one of which only changes are saved, if no name
-- changed and a copy was good
abbrev pub is_left : (changes only_changes : Bool) → Choice → ℕ → Bool
is_left false only_changes choice touched = true
is_left true only_changes Neither touched = false
is_left true only_changes choice touched = only_changes && touched == 0

-- a task is done over a session, and the copies are written back if it may have changed them
abbrev pub is_kept : (only_changes : Bool) → Task → (opened after : Held) → Bool
is_kept only_changes task opened after =
    not (is_left (changes task) only_changes opened.now.current (env.len (last_changed_names after.marks)))

abbrev pub UsesTool : Holds → (only_changes : Bool) → Task → Source → Held → Devices → Writers → Writers → ℕ → Type 0
UsesTool holds only_changes task source session devices old new status =
    (after : Scene) × (end : ToolEnd) × Acts holds task (record { session = session; writers = old }) after end
    × (new.output ≡ after.writers.output)
    × Closes (is_kept only_changes task session after.session) Second source after.session end devices after.writers.errors new.errors status

-- what is done over a session; a tool doesn't read standard input, nor does a check, nor a script's run
-- except for its file
abbrev pub DoesJob : Holds → (only_changes : Bool) → Option EnvironmentText → Job → Source → Held → Devices → Streams → Streams → ℕ → Type 0
DoesJob holds only_changes text (Tool task) source session devices old new status =
    (new.input ≡ old.input) × UsesTool holds only_changes task source session devices (writers_of old) (writers_of new) status
DoesJob holds only_changes text (Tries run) source session devices old new status = TriesOver holds run source session devices old new status
DoesJob holds only_changes text (Runs run) source session devices old new status =
    (new.input ≡ old.input) × RunsOver holds run source session devices (writers_of old) (writers_of new) status
DoesJob holds only_changes text (Boots power_ons) source session devices old new status =
    (new.input ≡ old.input) × BootsOver holds power_ons session (writers_of old) (writers_of new) status × AreLeft devices
DoesJob holds only_changes text (Checks check) source session devices old new status =
    (new.input ≡ old.input) × ChecksOver holds check text session (writers_of old) (writers_of new) status × AreLeft devices

-- nothing is done over a session: if that is for a text which isn't a script, `run` was given that text
abbrev pub HaltsAt : Holds → Job → Halt → Type 0
HaltsAt holds (Runs run) halt = HaltsRun holds run halt
HaltsAt holds job halt = ⊤

abbrev pub HaltsJob : Holds → Job → Halt → Devices → Streams → Streams → Type 0
HaltsJob holds job halt devices old new =
    HaltsAt holds job halt × (new.input ≡ old.input) × AreSame (writers_of old) (writers_of new) × AreLeft devices

-- locks may be waited for, then a session is opened, with a warning if no copy is good, and worked on; what writes
-- copies, and isn't told to write over those that are good in another way, works over none of these
pub record OpensSession (holds : Holds) (call : Call) (old : Option (List ℕ)) (asked : Defaults) (source : Source) (kept : Option KeptText) (session : Held) (warned_by : Option (List ℕ)) : Type 0 where
  pub waited : Option (List ℕ)
  pub waits : HasWaited old waited
  pub taken : IsTaken session.now.current call.defaults asked
  pub opening : IsOpening holds call.config call.image call.order call.copy (spares call) asked source kept session
  pub accepted : lacks_copy asked session.now.current ≡ false
  pub warns : AppendsFront waited warned_by (warned call.defaults.whole session.now.current)

abbrev pub UsesSession : Holds → Call → Devices → Streams → Streams → ℕ → Type 0
UsesSession holds call devices old new status =
    (asked : Defaults) × (source : Source) × (kept : Option KeptText) × (session : Held) × (said : Option (List ℕ))
    × OpensSession holds call old.errors asked source kept session said
    × DoesJob holds call.only_changes (environment_text call kept) call.job source session devices
    (record { input = old.input; output = old.output; errors = said }) new status

-- or there is none: nothing is done, and printed only that locks are waited for
abbrev pub HasNoSession : Holds → Call → Halt → Devices → Streams → Streams → Type 0
HasNoSession holds call halt devices old new =
    ((why : Stop) × (halt ≡ Files why) × (IsCopiesStop holds call why ⊎ IsOpeningStop holds call why))
    × (new.input ≡ old.input) × (new.output ≡ old.output) × AreLeft devices × HasWaited old.errors new.errors

-- or a file for the work over it can't be used
abbrev pub HaltsOver : Holds → Call → Halt → Devices → Streams → Streams → Type 0
HaltsOver holds call halt devices old new =
    (asked : Defaults) × (source : Source) × (kept : Option KeptText) × (session : Held) × (said : Option (List ℕ))
    × OpensSession holds call old.errors asked source kept session said
    × HaltsJob holds call.job halt devices
    (record { input = old.input; output = old.output; errors = said }) new

abbrev pub HaltsCall : Holds → Call → Halt → Devices → Streams → Streams → Type 0
HaltsCall holds call halt devices old new =
    HasNoSession holds call halt devices old new ⊎ HaltsOver holds call halt devices old new

-- what a subcommand is asked for is done
abbrev pub Done : (holds wrote : Holds) → Asked → Devices → Streams → Streams → ℕ → Type 0
Done holds wrote (Work call) devices old new status = UsesSession holds call devices old new status
Done holds wrote (Look report) devices old new status = (new.input ≡ old.input) × ReportsOn holds report (writers_of old) (writers_of new) status × AreLeft devices
Done holds wrote (Check check) devices old new status = (new.input ≡ old.input) × ChecksFile holds check (writers_of old) (writers_of new) status × AreLeft devices
Done holds wrote (Make image) devices old new status = (new.input ≡ old.input) × MakesImage holds wrote image (writers_of old) (writers_of new) status × AreLeft devices
Done holds wrote (Find path) devices old new status = (new.input ≡ old.input) × Finds holds path (writers_of old) (writers_of new) status × AreLeft devices

-- or nothing is, for this reason
abbrev pub Halts : Holds → Asked → Halt → Devices → Streams → Streams → Type 0
Halts holds (Work call) halt devices old new = HaltsCall holds call halt devices old new
Halts holds asked halt devices old new = (new.input ≡ old.input) × HaltsAfterLocks (writers_of old) (writers_of new) × AreLeft devices

abbrev pub stopped_job : Job → ℕ
stopped_job (Checks check) = unchecked
stopped_job job = 1

abbrev pub stopped_status : Asked → ℕ
stopped_status (Work call) = stopped_job call.job
stopped_status (Check check) = unchecked
stopped_status asked = 1

-- that is reported, by the one line for it
abbrev pub Stopped : Holds → Asked → Devices → Streams → Streams → ℕ → Type 0
Stopped holds asked devices old new status =
    (halt : Halt) × (between : Streams) × Halts holds asked halt devices old between
    × (new.input ≡ between.input) × (new.output ≡ between.output) × SaysHalt (explains_asked asked) halt between.errors new.errors
    × (status ≡ stopped_status asked)

-- wrong arguments that clap's rules don't detect are answered with a text and this status, and nothing is read
abbrev pub Called : (holds wrote : Holds) → (refused : ℕ) → Result Asked Text → Devices → Streams → Streams → ℕ → Type 0
Called holds wrote refused (Ok asked) devices old new status = Stopped holds asked devices old new status ⊎ Done holds wrote asked devices old new status
Called holds wrote refused (Err text) devices old new status =
    (new.input ≡ old.input) × (new.output ≡ old.output) × AppendsFront old.errors new.errors text × (status ≡ refused) × AreLeft devices
