-- The status of a check.
use Rattle.std.proofs.Common.{◌≡◌, ◌≤◌, ℕ, Bool, true, false, List, [], ◌∷◌, ◌++◌, Option, Some, None, inl, inr, arith, ap, subst, sym, ◌∙◌}
use Rattle.std.specs.Prelude.{MatchOption, if◌then◌else◌, is_some}
use Rattle.std.specs.Io.KnownBytes.{Appends}
use Rattle.std.proofs.lemmas.List.{map-append}
use Rattle.std.proofs.ByRecursion.{All-push}
use Rattle.clap.specs.Words.{Text}
use Rattle.env_session.specs.Session.{Held}
use Rattle.hush_commands.specs.Hardware.{Hardware}
use Rattle.envimg_core.specs.Environment.{Environment}
use Rattle.finding_kinds.specs.Choices.{Choice}
use Rattle.fw_check.specs.Checking.{PrintsReport, is_failed, texts_of, with_whole}
use Rattle.fw_check.specs.EntryPlaces.{EnvironmentText}
use Rattle.fw_check.specs.Called.{Given, given_with}
use Rattle.fw_check.specs.FileChecks.{Checks, ChecksFiles, FileScript, is_alone}
use Rattle.fw_check.specs.ReportLines.{Report}
use Rattle.fw_engines.specs.Streams.{AppendsPart, Writers}
use Rattle.fw_engines.specs.Tool.{Prints, PrintsText, Texts, Writes, WritesPart}
use Rattle.fw_engines.specs.declared.tool_end.StreamFault.{StreamFault}
use Rattle.fw_engines.specs.declared.tool_end.StreamFault.TheVariants.{Write}
use Rattle.fw_engines.specs.declared.tool_end.ToolEnd.{ToolEnd}
use Rattle.fw_arguments.specs.Checks.{EnvironmentCheck, FileCheck}
use Rattle.fw_tools.specs.CheckRuns.{AddsScriptAt, AreScriptsAt, ChecksFile, ChecksOver, IsHardwareGiven, IsScriptAt, check_status, unchecked}
use Rattle.fw_files.specs.KnownNames.{AreKnownOf}
use Rattle.fw_tools.specs.Said.{Says}
use Rattle.fw_files.specs.FileTexts.{Holds}

-- 1 if something counts, else 0
flag_small : (failed : Bool) → (if failed then 1 else 0) ≤ 1
flag_small true = omega arith
flag_small false = omega arith

report_small : (report : Report) → (texts_of report).status ≤ 1
report_small report = flag_small (is_failed report)

pub text_small : (end : ToolEnd) (old new : Option (List ℕ)) (text : List ℕ) (status : ℕ) → status ≤ 1 → PrintsText old new text status end → end.status ≤ 1
text_small end old new text status small p = by_fault end.fault p
  where
    by_fault : (f : Option StreamFault) → MatchOption f (Appends old new text × (end.status ≡ status)) (λ fault. (fault ≡ Write) × AppendsPart old new text × (end.status ≡ 1)) → end.status ≤ 1
    by_fault None h = omega (arith, h.1, small)
    by_fault (Some f) h = omega (arith, h.2)

texts_small : (end : ToolEnd) (old new : Writers) (texts : Texts) → texts.status ≤ 1 → Prints old new texts end → end.status ≤ 1
texts_small end old new texts small p = by_fault end.fault p
  where
    by_fault : (f : Option StreamFault) → MatchOption f (Writes old new texts × (end.status ≡ texts.status)) (λ fault. (fault ≡ Write) × WritesPart old new texts × (end.status ≡ 1)) → end.status ≤ 1
    by_fault None h = omega (arith, h.1, small)
    by_fault (Some f) h = omega (arith, h.2)

prints_small : (old new : Writers) (report : Report) (end : ToolEnd) → PrintsReport old new report end → end.status ≤ 1
prints_small old new report end p = texts_small end old new (texts_of report) (report_small report) p

checks_small : (given : Given) (env : Environment) (file : Option EnvironmentText) (choice : Choice) (names : List (List ℕ)) (scripts : List FileScript) (old new : Writers) (end : ToolEnd) → Checks given env file choice names scripts old new end → end.status ≤ 1
checks_small given env file choice names scripts old new end (inl (report, comes, prints)) = prints_small old new (with_whole (is_alone scripts) env file report) end prints
checks_small given env file choice names scripts old new end (inr lacks) = omega (arith, lacks.2)

file_checks_small : (given : Given) (choice : Choice) (scripts : List FileScript) (old new : Writers) (end : ToolEnd) → ChecksFiles given choice scripts old new end → end.status ≤ 1
file_checks_small given choice scripts old new end (inl (report, comes, prints)) = prints_small old new report end prints
file_checks_small given choice scripts old new end (inr lacks) = omega (arith, lacks.2)

status_small : (end : ToolEnd) → end.status ≤ 1 → check_status end ≤ unchecked
status_small end small = by_fault end.fault
  where
    by_fault : (f : Option StreamFault) → (if is_some f then unchecked else end.status) ≤ unchecked
    by_fault None = omega (arith, small)
    by_fault (Some f) = omega arith

pub check_small : (holds : Holds) (check : EnvironmentCheck) (text : Option EnvironmentText) (session : Held) (old new : Writers) (status : ℕ) → ChecksOver holds check text session old new status → status ≤ unchecked
check_small holds check text session old new status (h, known, scripts, read, named, paths, (end, said, checks, says, ended)) =
    omega (arith, ended, status_small end (checks_small (given_with check.shell h known) session.now.env text check.choice check.names scripts old (record { output = new.output; errors = said }) end checks))

pub file_check_small : (holds : Holds) (check : FileCheck) (old new : Writers) (status : ℕ) → ChecksFile holds check old new status → status ≤ unchecked
file_check_small holds check old new status (h, scripts, given, read, (end, said, checks, says, ended)) =
    omega (arith, ended, status_small end (file_checks_small (given_with check.shell h []) check.choice scripts old (record { output = new.output; errors = said }) end checks))

-- a check by these rules whose environment and names are these
pub checks-over : (holds : Holds) (check : EnvironmentCheck) (text : Option EnvironmentText) (session : Held) (old new : Writers) (status : ℕ) (h : Option Hardware) (known : List (List ℕ)) (given : Given) (env : Environment) (names : List (List ℕ)) (scripts given_scripts : List FileScript) (end : ToolEnd) (said : Option (List ℕ)) →
    IsHardwareGiven holds check.stand_ins check.board h → AreKnownOf holds check.known known → AreScriptsAt holds check.scripts given_scripts →
    Checks given env text check.choice names scripts old (record { output = new.output; errors = said }) end → env ≡ session.now.env →
    given ≡ given_with check.shell h known → names ≡ check.names → scripts ≡ given_scripts → status ≡ check_status end → Says end.fault said new.errors → ChecksOver holds check text session old new status
checks-over holds check text session old new status h known given env names scripts given_scripts end said read named paths checks same_env same_rules same_names same_scripts ended says =
    let after : Writers = record { output = new.output; errors = said } in
    let one = subst (λ e. Checks given e text check.choice names scripts old after end) same_env checks in
    let two = subst (λ g. Checks g session.now.env text check.choice names scripts old after end) same_rules one in
    let three = subst (λ ns. Checks (given_with check.shell h known) session.now.env text check.choice ns scripts old after end) same_names two in
    let four = subst (λ ss. Checks (given_with check.shell h known) session.now.env text check.choice check.names ss old after end) same_scripts three in
    (h, known, given_scripts, read, named, paths, (end, said, four, says, ended))

-- the same of a check of scripts in files
pub file-checks-over : (holds : Holds) (check : FileCheck) (old new : Writers) (status : ℕ) (h : Option Hardware) (given : Given) (scripts given_scripts : List FileScript) (end : ToolEnd) (said : Option (List ℕ)) →
    IsHardwareGiven holds check.stand_ins check.board h → AreScriptsAt holds check.paths given_scripts → ChecksFiles given check.choice scripts old (record { output = new.output; errors = said }) end →
    given ≡ given_with check.shell h [] → scripts ≡ given_scripts → status ≡ check_status end → Says end.fault said new.errors → ChecksFile holds check old new status
file-checks-over holds check old new status h given scripts given_scripts end said read paths checks same_rules same_scripts ended says =
    let after : Writers = record { output = new.output; errors = said } in
    let one = subst (λ g. ChecksFiles g check.choice scripts old after end) same_rules checks in
    let two = subst (λ ss. ChecksFiles (given_with check.shell h []) check.choice ss old after end) same_scripts one in
    (h, given_scripts, read, paths, (end, said, two, says, ended))

-- ---- scripts of files

-- one more at the end
pub file_added : (holds : Holds) (paths : List Text) (path : Text) (old new : List FileScript) → AreScriptsAt holds paths old → AddsScriptAt holds path old new →
    AreScriptsAt holds (paths ++ path ∷ []) new
file_added holds paths path old new (same, are) (text, held, grown) =
    let script : FileScript = record { path = path; text = text } in
    subst (AreScriptsAt holds (paths ++ path ∷ [])) (sym grown) (
      map-append (λ (s : FileScript). s.path) old (script ∷ []) ∙ ap (λ ps. ps ++ path ∷ []) same,
      All-push (IsScriptAt holds) old script are held,
    )
