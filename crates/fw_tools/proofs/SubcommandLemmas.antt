-- What a subcommand does, put together, and its status.
use Rattle.std.proofs.Common.{◌≡◌, ◌⊎◌, ◌≤◌, ℕ, zero, suc, Bool, true, false, List, [], ◌∷◌, ◌++◌, Option, Some, None, inl, inr, refl, sym, ap, ◌∙◌, subst, arith}
use Rattle.std.specs.Prelude.{◌==◌, ◌&&◌, not, is_some, option_map, map, MatchOption, MatchResult, IfOk, IfErr, Result, Ok, Err, if◌then◌else◌, length}
use Rattle.env_session.specs.Requests.{entry_in, refusal_in}
use Rattle.std.specs.FinMap as env
use Rattle.env_session.specs.Session.{Held, last_changed_names, written}
use Rattle.envcfg_core.specs.Config.{config_view, place_view}
use Rattle.envcfg_core.specs.declared.config.Config.{Config}
use Rattle.envcfg_core.specs.Entries as text_entries
use Rattle.envcfg_core.specs.Entries.{entry_view}
use Rattle.envcfg_core.specs.declared.entry.TextEntry.{TextEntry}
use Rattle.envimg_core.specs.Environment.{Environment}
use Rattle.envimg_core.specs.Pieces.{Entry}
use Rattle.envimg_core.specs.declared.choice.Choice.{Choice}
use Rattle.envimg_core.specs.declared.choice.Choice.TheVariants as choices
use Rattle.envimg_core.specs.declared.geometry.Order.{Order}
use Rattle.envvars_core.specs.declared.refusals.Refusal.{Refusal}
use Rattle.fw_files.specs.Opening.{AreCopies, AreCopiesIn, AreWantedIn}
use Rattle.fw_check.specs.EntryPlaces.{EnvironmentText}
use Rattle.fw_tools.specs.CheckRuns.{ChecksOver, environment_text, unchecked}
use Rattle.fw_tools.specs.Closing.{Closes}
use Rattle.fw_tools.specs.Subcommands.{Acts, DoesJob, HaltsCall, HaltsJob, OpensSession, Called, Done, Halts, Scene, UsesSession, UsesTool, is_kept, is_left, printed_so, stopped_job, stopped_status}
use Rattle.fw_files.specs.WrittenBack.{AreLeft, Devices}
use Rattle.fw_arguments.specs.Checks.{EnvironmentCheck}
use Rattle.fw_tools.specs.Said.{AreSame}
use Rattle.fw_arguments.specs.Calls.{Boots, Call, Checks, Defaults, Job, Runs, Task, Tool, Tries, changes, job_view}
use Rattle.fw_arguments.specs.declared.job.Job as asked_jobs
use Rattle.fw_arguments.specs.Report.{Asked, Check, Find, Look, Make, Work}
use Rattle.fw_tools.proofs.CheckLemmas.{check_small, file_check_small}
use Rattle.fw_tools.proofs.CopyReportLemmas.{reports_small}
use Rattle.fw_tools.proofs.FindLemmas.{finds_small}
use Rattle.fw_tools.proofs.NewImageLemmas.{image_small}
use Rattle.fw_tools.proofs.PowerOnLemmas.{boots_small}
use Rattle.fw_arguments.specs.DryRuns.{ScriptRun}
use Rattle.fw_tools.specs.ScriptRuns as ScriptRuns
use Rattle.fw_tools.specs.ScriptRuns.{RunsOver}
use Rattle.fw_session.specs.ScriptRun.{course_texts, ended_badly, ended_so, has_booted, is_well, no_boot}
use Rattle.hush_run.specs.declared.outcome.Course.{Course}
use Rattle.fw_files.specs.Locks.{HasWaited}
use Rattle.fw_arguments.specs.declared.wanted_copy.WantedCopy.{WantedCopy}
use Rattle.fw_files.specs.WantedCopy.{IsRefusal, IsWantedIn, refusal_of}
use Rattle.fw_files.specs.Source.{AreSettingsAt, IsSourceOf, KeptText, second_bytes}
use Rattle.fw_files.specs.declared.stop.Stop.{Stop}
use Rattle.fw_tools.specs.NoSession.{IsCopiesStop, IsOpeningStop}
use Rattle.fw_tools.specs.declared.halt.Halt.TheVariants.{Files}
use Rattle.fw_tools.specs.HaltLines.{SaysHalt}
use Rattle.fw_tools.specs.Reasons.{explains_asked}
use Rattle.fw_tools.specs.declared.explains.Explains.{Explains}
use Rattle.fw_tools.specs.declared.halt.Halt.{Halt}
use Rattle.fw_files.specs.declared.source.Source.{Source}
use Rattle.fw_arguments.specs.declared.task.Printing.{Printing}
use Rattle.fw_arguments.specs.declared.task.Printing.TheVariants.{Lines, OneValue, Values}
use Rattle.fw_engines.specs.TextForm.{export_texts, status_for}
use Rattle.fw_engines.specs.VariableLines.{complaint, named, one_name, printed, status_of}
use Rattle.fw_engines.specs.Changes.{Changing, Effect, Ends, count_status, pair_of, script_effect, unless_refused}
use Rattle.fw_engines.specs.Restoration.{forced_effect, restore_effect, restoring, unless_refused_in}
use Rattle.fw_tools.specs.SessionRun as SessionRun
use Rattle.fw_tools.specs.SessionRun.{ClosesDryRun, Reports, text_for}
use Rattle.fw_session.specs.declared.session_end.SessionEnding.{SessionEnding}
use Rattle.fw_engines.specs.Streams.{Streams, Writers, writers_of}
use Rattle.fw_engines.specs.Tool.{Printed, Prints, Texts, Writes, WritesPart}
use Rattle.fw_engines.specs.declared.tool_end.StreamFault.{StreamFault}
use Rattle.fw_engines.specs.declared.tool_end.StreamFault.TheVariants.{Read, Write, Memory}
use Rattle.fw_engines.specs.declared.tool_end.ToolEnd.{ToolEnd}
use Rattle.fw_files.specs.FileTexts.{Holds}

-- the entries of a set script as names and values
pub pairs_in : (entries : List TextEntry) → map pair_of (map entry_view entries) ≡ map entry_in entries
pairs_in [] = refl
pairs_in (e ∷ es) = ap (λ others. entry_in e ∷ others) (pairs_in es)

-- the copies that a configuration names
mapped : {A B : Type 0} (f : A → B) (o : Option A) → is_some (option_map f o) ≡ is_some o
mapped f None = refl
mapped f (Some a) = refl

pub configured : (holds : Holds) (path : List ℕ) (order : Order) (config : Config) (source : Source) → AreSettingsAt holds path (config_view config) → IsSourceOf order config source →
    AreCopiesIn holds path None order source
configured holds path order config source settings is =
    (config_view config, settings, is.geometry, mapped (λ c. c.bytes.items) source.second ∙ is.second ∙ sym (mapped place_view config.second))

-- the copy that is asked for, in the place of each that was read
pub wanted_so : (holds : Holds) (config : List ℕ) (image : Option ℕ) (order : Order) (wanted : WantedCopy) (read source : Source) → AreCopiesIn holds config image order read → IsWantedIn wanted read source →
    AreWantedIn holds config image order wanted source
wanted_so holds config image order wanted read source copies (good, placed) = (
  read.first.bytes.items,
  second_bytes read.second,
  subst (λ shape. AreCopies holds config image order shape read.first.bytes.items (second_bytes read.second)) (sym placed.geometry) copies,
  subst (λ shape. refusal_of wanted shape read.first.bytes.items (second_bytes read.second) ≡ None) (sym placed.geometry) good,
  placed.first,
  placed.second,
)

-- or it can't be taken
pub not_wanted : (holds : Holds) (call : Call) (read : Source) (why : Stop) → AreCopiesIn holds call.config call.image call.order read →
    IsRefusal (refusal_of call.copy read.geometry read.first.bytes.items (second_bytes read.second)) why → IsCopiesStop holds call why
not_wanted holds call read why copies refused = by_refusal _ refl refused
  where
    by_refusal : (r : Option Stop) → refusal_of call.copy read.geometry read.first.bytes.items (second_bytes read.second) ≡ r → IsRefusal r why → IsCopiesStop holds call why
    by_refusal None is lacks = inr (inr lacks)
    by_refusal (Some refusal) is same = inr (inl (read.geometry, read.first.bytes.items, second_bytes read.second, copies, is ∙ ap Some (sym same)))

-- a session was opened, and worked on, or not
pub worked : (holds : Holds) (call : Call) (devices : Devices) (old new : Streams) (asked : Defaults) (source : Source) (kept : Option KeptText) (session : Held) (said : Option (List ℕ)) (r : Result ℕ Halt) →
    OpensSession holds call old.errors asked source kept session said →
    MatchResult r (DoesJob holds call.only_changes (environment_text call kept) call.job source session devices (record { input = old.input; output = old.output; errors = said }) new)
    (λ h. HaltsJob holds call.job h devices (record { input = old.input; output = old.output; errors = said }) new) →
    MatchResult r (UsesSession holds call devices old new) (λ h. HaltsCall holds call h devices old new)
worked holds call devices old new asked source kept session said (Ok status) opens does = (asked, source, kept, session, said, opens, does)
worked holds call devices old new asked source kept session said (Err h) opens halts = inr (asked, source, kept, session, said, opens, halts)

-- or it was not opened
pub halted : (holds : Holds) (call : Call) (devices : Devices) (old new : Streams) (why : Stop) → IsCopiesStop holds call why ⊎ IsOpeningStop holds call why →
    new.input ≡ old.input → new.output ≡ old.output → AreLeft devices → HasWaited old.errors new.errors → HaltsCall holds call (Files why) devices old new
halted holds call devices old new why stops unread silent left waited = inl ((why, refl, stops), unread, silent, left, waited)

pub halted_as : (r : Result ℕ Halt) (h : Halt) (P : ℕ → Type 0) (Q : Halt → Type 0) → r ≡ Err h → Q h → MatchResult r P Q
halted_as r h P Q is halts = subst (λ x. MatchResult x P Q) (sym is) halts

-- and that is reported
pub called : (holds wrote : Holds) (refused : ℕ) (asked : Asked) (devices : Devices) (old : Streams) (input output before after : Option (List ℕ)) (r : Result ℕ Halt) (how : Explains) (status stopped : ℕ) →
    how ≡ explains_asked asked → stopped ≡ stopped_status asked →
    MatchResult r (Done holds wrote asked devices old (record { input = input; output = output; errors = before }))
    (λ h. Halts holds asked h devices old (record { input = input; output = output; errors = before })) →
    IfOk r (λ s. (status ≡ s) × (after ≡ before)) → IfErr r (λ h. (status ≡ stopped) × SaysHalt how h before after) →
    Called holds wrote refused (Ok asked) devices old (record { input = input; output = output; errors = after }) status
called holds wrote refused asked devices old input output before after (Ok s) how status stopped by of done (is, same) said =
    inr (subst (Done holds wrote asked devices old (record { input = input; output = output; errors = after })) (sym is) (subst (λ e. Done holds wrote asked devices old (record { input = input; output = output; errors = e }) s) (sym same) done))
called holds wrote refused asked devices old input output before after (Err h) how status stopped by of halts done (is, said) =
    inl (h, record { input = input; output = output; errors = before }, halts, refl, refl, subst (λ x. SaysHalt x h before after) by said, is ∙ of)

-- what was done for a job, once it is known which that is
pub job_done : (holds : Holds) (only_changes : Bool) (text : Option EnvironmentText) (job known : asked_jobs.Job) (source : Source) (session : Held) (devices : Devices) (old new : Streams) (r : Result ℕ Halt) → job ≡ known →
    MatchResult r (DoesJob holds only_changes text (job_view known) source session devices old new) (λ h. HaltsJob holds (job_view known) h devices old new) →
    MatchResult r (DoesJob holds only_changes text (job_view job) source session devices old new) (λ h. HaltsJob holds (job_view job) h devices old new)
job_done holds only_changes text job known source session devices old new r is does =
    subst (λ (j : asked_jobs.Job). MatchResult r (DoesJob holds only_changes text (job_view j) source session devices old new) (λ h. HaltsJob holds (job_view j) h devices old new)) (sym is) does

pub either : {T E : Type 0} (r : Result T E) (P P' : T → Type 0) (Q Q' : E → Type 0) → ((t : T) → P t → P' t) → ((e : E) → Q e → Q' e) → MatchResult r P Q → MatchResult r P' Q'
either (Ok t) P P' Q Q' p q is = p t is
either (Err e) P P' Q Q' p q is = q e is

-- a check of an environment, of which it is known whether it is all of a text
pub check_done : (holds : Holds) (only_changes : Bool) (check : EnvironmentCheck) (given text : Option EnvironmentText) (source : Source) (session : Held) (devices : Devices) (old new : Streams) (r : Result ℕ Halt) →
    given ≡ text → new.input ≡ old.input → AreLeft devices →
    MatchResult r (ChecksOver holds check given session (writers_of old) (writers_of new)) (λ h. AreSame (writers_of old) (writers_of new)) →
    MatchResult r (DoesJob holds only_changes text (Checks check) source session devices old new) (λ h. HaltsJob holds (Checks check) h devices old new)
check_done holds only_changes check given text source session devices old new (Ok status) is unread left checks =
    (unread, subst (λ t. ChecksOver holds check t session (writers_of old) (writers_of new) status) is checks, left)
check_done holds only_changes check given text source session devices old new (Err h) is unread left same = (tt, unread, same, left)

-- by what a task is known to change
pub kept_if : (r only_changes changing : Bool) (current : Choice) (touched : ℕ) (b : Bool) (task : Task) (opened after : Held) → r ≡ is_left changing only_changes current touched →
    changing ≡ changes task → current ≡ opened.now.current → touched ≡ env.len (last_changed_names after.marks) → r ≡ b → is_kept only_changes task opened after ≡ not b
kept_if r only_changes changing current touched b task opened after is does was many so =
    ap not (
    sym (ap (is_left (changes task) only_changes opened.now.current) many) ∙ sym (ap (λ x. is_left (changes task) only_changes x touched) was)
    ∙ sym (ap (λ x. is_left x only_changes current touched) does) ∙ sym is ∙ so
    )

-- a tool's task was done, and the session closed
pub used_tool : (holds : Holds) (only_changes kept : Bool) (task : Task) (source : Source) (session : Held) (devices : Devices) (old : Writers) (after : Scene) (end : ToolEnd) (errors : Option (List ℕ)) (status : ℕ) →
    Acts holds task (record { session = session; writers = old }) after end → kept ≡ is_kept only_changes task session after.session →
    Closes kept choices.Second source after.session end devices after.writers.errors errors status →
    UsesTool holds only_changes task source session devices old (record { output = after.writers.output; errors = errors }) status
used_tool holds only_changes kept task source session devices old after end errors status acts is closes =
    (after, end, acts, refl, subst (λ k. Closes k choices.Second source after.session end devices after.writers.errors errors status) is closes)

-- each status is 0 or 1
printed_small : (fault : Option StreamFault) (old new : Writers) (texts : Texts) (status : ℕ) → texts.status ≤ 1 → Printed fault old new texts status → status ≤ 1
printed_small None old new texts status small p = omega (arith, p.1, small)
printed_small (Some Read) old new texts status small p = omega (arith, p.1)
printed_small (Some Write) old new texts status small p = omega (arith, p.1)
printed_small (Some Memory) old new texts status small p = omega (arith, p.1)

ends_small : (fault : Option StreamFault) (old new : Changing) (effect : Effect) (lacks : Held → Type 0) (status : ℕ) → effect.status ≤ 1 → Ends fault old new effect lacks status → status ≤ 1
ends_small None old new effect lacks status small p = omega (arith, p.1, small)
ends_small (Some Read) old new effect lacks status small p = absurd p
ends_small (Some Write) old new effect lacks status small p = omega (arith, p.1)
ends_small (Some Memory) old new effect lacks status small p = omega (arith, p.1)

status_small : (failed : Bool) → status_of failed ≤ 1
status_small true = omega arith
status_small false = omega arith

for_small : (text : List ℕ) → status_for text ≤ 1
for_small [] = omega arith
for_small (b ∷ bs) = omega arith

printenv_small : (env : Environment) (names : List (List ℕ)) (value_only : Bool) → (printed env names value_only).status ≤ 1
printenv_small env [] false = omega arith
printenv_small env (n ∷ names) false = status_small _
printenv_small env names true = one (length names == 1)
  where
    one : (b : Bool) → (if b then named true env names else complaint one_name).status ≤ 1
    one true = status_small _
    one false = omega arith

so_small : (printing : Printing) (env : Environment) (names : List (List ℕ)) → (printed_so printing env names).status ≤ 1
so_small Lines env names = printenv_small env names false
so_small OneValue env names = printenv_small env names true
so_small Values env names = status_small _

unless_small : (r : Option Refusal) (name : List ℕ) (h : Held) (rest : Effect) → rest.status ≤ 1 → (unless_refused r name h rest).status ≤ 1
unless_small None name h rest small = small
unless_small (Some r) name h rest small = omega arith

script_small : (h : Held) (entries : List Entry) → (script_effect h entries).status ≤ 1
script_small h [] = omega arith
script_small h (e ∷ es) = unless_small (refusal_in h e.0 e.1 false) e.0 h _ (script_small (written h e.0 e.1) es)

unless_in_small : (r : Option Refusal) (e : text_entries.Entry) (h : Held) (rest : Effect) → rest.status ≤ 1 → (unless_refused_in r e h rest).status ≤ 1
unless_in_small None e h rest small = small
unless_in_small (Some r) e h rest small = omega arith

forced_small : (h : Held) (entries : List text_entries.Entry) → (forced_effect h entries).status ≤ 1
forced_small h [] = omega arith
forced_small h (e ∷ es) = unless_in_small (refusal_in h e.name e.value true) e h _ (forced_small (written h e.name e.value) es)

restore_small : (h : Held) (entries : List text_entries.Entry) → (restore_effect h entries).status ≤ 1
restore_small h [] = omega arith
restore_small h (e ∷ es) = forced_small h (restoring h.now.env (e ∷ es))

count_small : (n : ℕ) → count_status n ≤ 1
count_small zero = omega arith
count_small (suc n) = omega arith

acts_small : (holds : Holds) (task : Task) (old new : Scene) (end : ToolEnd) → Acts holds task old new end → end.status ≤ 1
acts_small holds (Task.Print names printing) old new end acts = printed_small end.fault _ _ _ end.status (so_small printing old.session.now.env names) acts.1
acts_small holds (Task.Set name words) old new end acts = ends_small end.fault _ _ _ _ end.status (unless_small (refusal_in old.session name _ false) name old.session _ (omega arith)) acts.1
acts_small holds (Task.SetScript path) old new end acts = ends_small end.fault _ _ _ _ end.status (script_small old.session (map pair_of acts.0)) acts.1.1.1
acts_small holds (Task.Import path) old new end acts = ends_small end.fault _ _ _ _ end.status (count_small _) acts.1.1.1
acts_small holds Task.Export old new end acts = printed_small end.fault _ _ _ end.status (for_small (export_texts old.session.now.env).errors) acts.1
acts_small holds (Task.Restore path) old new end acts = ends_small end.fault _ _ _ _ end.status (restore_small old.session acts.0) acts.1.1.1

closes_small : (kept : Bool) (last : Choice) (source : Source) (session : Held) (end : ToolEnd) (devices : Devices) (old new : Option (List ℕ)) (status : ℕ) → end.status ≤ 1 →
    Closes kept last source session end devices old new status → status ≤ 1
closes_small true last source session end devices old new status small (safe, inl failed) = omega (arith, failed.1)
closes_small true last source session end devices old new status small (safe, inr (warned, warns, closed, is, kept)) = omega (arith, is, small)
closes_small false last source session end devices old new status small (said, is, left) = omega (arith, is, small)

tool_small : (holds : Holds) (only_changes : Bool) (task : Task) (source : Source) (session : Held) (devices : Devices) (old new : Writers) (status : ℕ) →
    UsesTool holds only_changes task source session devices old new status → status ≤ 1
tool_small holds only_changes task source session devices old new status (after, end, acts, same, closes) =
    closes_small _ _ source after.session end devices _ _ status (acts_small holds task _ after end acts) closes

ending_small : (text : Option (List ℕ)) (old new : Option (List ℕ)) (status : ℕ) → Reports text old new status → status ≤ 1
ending_small None old new status (same, is) = omega (arith, is)
ending_small (Some text) old new status (said, is) = omega (arith, is)

leaves_small : (kept : Bool) (end : SessionEnding) (source : Source) (after : Held) (devices : Devices) (old new : Option (List ℕ)) (status : ℕ) →
    ClosesDryRun kept end source after devices old new status → status ≤ 1
leaves_small true end source after devices old new status (safe, inl (said, is)) = omega (arith, is)
leaves_small true end source after devices old new status (safe, inr (said, says, reports, kept)) = ending_small (text_for end) said new status reports
leaves_small false end source after devices old new status (reports, left) = ending_small (text_for end) old new status reports

run_small : (fault : Option StreamFault) (status : ℕ) (old new : Writers) (texts : Texts) → texts.status ≤ 1 →
    MatchOption fault (Writes old new texts × (status ≡ texts.status)) (λ f. (f ≡ Write) × WritesPart old new texts × (status ≡ 1)) → status ≤ 1
run_small None status old new texts small p = omega (arith, p.1, small)
run_small (Some f) status old new texts small p = omega (arith, p.2)

either_small : (b : Bool) (x y : Texts) → x.status ≤ 1 → y.status ≤ 1 → (λ (t : Texts). t.status ≤ 1) (if b then x else y)
either_small true x y p q = p
either_small false x y p q = q

texts_small : (must_boot : Bool) (course : Course) → (course_texts must_boot course).status ≤ 1
texts_small must_boot course =
    let outcome = course.outcome in
    let text = outcome.text.items in
    let badly = ended_badly text (ended_so outcome.ending course.place outcome.status outcome.steps) in
    let without = ended_badly text (no_boot outcome.ending course.place course.departure outcome.status outcome.steps) in
    let well : Texts = record { output = text; errors = []; status = 0 } in
    let unbooted = must_boot && not (has_booted course.departure) in
    either_small (not (is_well outcome.ending outcome.status)) badly (if unbooted then without else well) (omega arith) (either_small unbooted without well (omega arith) (omega arith))

script_run_small : (holds : Holds) (run : ScriptRun) (source : Source) (session : Held) (devices : Devices) (old new : Writers) (status : ℕ) → RunsOver holds run source session devices old new status → status ≤ 1
script_run_small holds run source session devices old new status (given, tree, stand, is, r) =
    closes_small (ScriptRuns.is_kept run.dry.write r.2) _ source r.0 r.2.end devices r.1 new.errors status
    (run_small r.2.end.fault r.2.end.status (record { output = old.output; errors = r.3.0 }) (record { output = new.output; errors = r.1 }) (course_texts run.must_boot r.3.2.0) (texts_small run.must_boot r.3.2.0) r.3.2.5)
    r.4

job_small : (holds : Holds) (only_changes : Bool) (text : Option EnvironmentText) (job : Job) (source : Source) (session : Held) (devices : Devices) (old new : Streams) (status : ℕ) →
    DoesJob holds only_changes text job source session devices old new status → status ≤ stopped_job job
job_small holds only_changes text (Tool task) source session devices old new status (unread, uses) = tool_small holds only_changes task source session devices _ _ status uses
job_small holds only_changes text (Tries run) source session devices old new status (stand_ins, stand, tries) =
    leaves_small (SessionRun.is_kept run.write tries.0) tries.0 source tries.3.held devices _ _ status tries.5
job_small holds only_changes text (Runs run) source session devices old new status (unread, runs) = script_run_small holds run source session devices _ _ status runs
job_small holds only_changes text (Boots power_ons) source session devices old new status (unread, boots, left) = boots_small holds power_ons session _ _ status boots
job_small holds only_changes text (Checks check) source session devices old new status (unread, checks, left) = check_small holds check text session _ _ status checks

job_stopped : (job : Job) → stopped_job job ≤ unchecked
job_stopped (Tool task) = omega arith
job_stopped (Tries run) = omega arith
job_stopped (Runs run) = omega arith
job_stopped (Boots power_ons) = omega arith
job_stopped (Checks check) = omega arith

stopped_small : (asked : Asked) → stopped_status asked ≤ unchecked
stopped_small (Work call) = job_stopped call.job
stopped_small (Look report) = omega arith
stopped_small (Check check) = omega arith
stopped_small (Make image) = omega arith
stopped_small (Find path) = omega arith

done_small : (holds wrote : Holds) (asked : Asked) (devices : Devices) (old new : Streams) (status : ℕ) → Done holds wrote asked devices old new status → status ≤ unchecked
done_small holds wrote (Work call) devices old new status (asked, source, kept, session, said, opens, does) =
    omega (arith, job_small holds call.only_changes (environment_text call kept) call.job source session devices _ new status does, job_stopped call.job)
done_small holds wrote (Look report) devices old new status (unread, reports, left) = omega (arith, reports_small holds report _ _ status reports)
done_small holds wrote (Check check) devices old new status (unread, checks, left) = file_check_small holds check _ _ status checks
done_small holds wrote (Make image) devices old new status (unread, makes, left) = omega (arith, image_small holds wrote image _ _ status makes)
done_small holds wrote (Find path) devices old new status (unread, finds, left) = omega (arith, finds_small holds path _ _ status finds)

pub called_small : (holds wrote : Holds) (refused : ℕ) (asked : Asked) (devices : Devices) (old new : Streams) (status : ℕ) → Called holds wrote refused (Ok asked) devices old new status → status ≤ unchecked
called_small holds wrote refused asked devices old new status (inl (halt, between, halts, unread, silent, said, is)) = omega (arith, is, stopped_small asked)
called_small holds wrote refused asked devices old new status (inr done) = done_small holds wrote asked devices old new status done

-- ---- texts that are made first and then written

written_then : (fault : Option StreamFault) (status : ℕ) (old new : Writers) (texts : Texts) →
    MatchOption fault (Writes old new texts × (status ≡ texts.status)) (λ f. (f ≡ Write) × WritesPart old new texts × (status ≡ 1)) → Printed fault old new texts status
written_then None status old new texts p = p
written_then (Some f) status old new texts p = subst (λ x. Printed (Some x) old new texts status) (sym p.0) (p.1, p.2)

pub made_first : (end made : ToolEnd) (old new : Writers) (texts : Texts) (x y text messages text' messages' : List ℕ) →
    made.fault ≡ None → Prints (record { output = Some x; errors = Some y }) (record { output = Some text; errors = Some messages }) texts made →
    x ≡ [] → y ≡ [] → text' ≡ text → messages' ≡ messages →
    Prints old new (record { output = text'; errors = messages'; status = made.status }) end → Printed end.fault old new texts end.status
made_first end made old new texts x y text messages text' messages' is p ex ey et em q =
    let w = subst (λ m. MatchOption m (Writes (record { output = Some x; errors = Some y }) (record { output = Some text; errors = Some messages }) texts × (made.status ≡ texts.status))
    (λ f. (f ≡ Write) × WritesPart (record { output = Some x; errors = Some y }) (record { output = Some text; errors = Some messages }) texts × (made.status ≡ 1))) is p in
    let o : text' ≡ texts.output = et ∙ w.0.0 ∙ ap (λ z. z ++ texts.output) ex in
    let e : messages' ≡ texts.errors = em ∙ w.0.1 ∙ ap (λ z. z ++ texts.errors) ey in
    let same : ◌≡◌ {A = Texts} (record { output = text'; errors = messages'; status = made.status }) texts = λ i. record { output = o i; errors = e i; status = w.1 i } in
    written_then end.fault end.status old new texts (subst (λ t. Prints old new t end) same q)
