-- What a check of an environment prints (docs/check.md).
use Rattle.std.specs.Prelude.{◌≡◌, ℕ, ◌==◌, suc, ◌&&◌, ◌||◌, Bool, true, false, not, List, [], ◌∷◌, ◌++◌, map, fold, slice_get, codes, Option, Some, None, unwrap_or, if◌then◌else◌}
use Rattle.std.specs.List.{AllByRecursion, flat_map, list_any}
use Rattle.std.specs.FinMap.{entries, get}
use Rattle.finding_kinds.specs.Choices.{Choice}
use Rattle.finding_kinds.specs.declared.choice.Format.{Format}
use Rattle.finding_kinds.specs.declared.choice.Format.TheVariants as format
use Rattle.finding_kinds.specs.declared.kinds.FindingKind.TheVariants as kind
use Rattle.hush_words.specs.Parts.{written}
use Rattle.hush_syntax.specs.Halts.{halt_in}
use Rattle.hush_syntax.specs.Reading.{read_in}
use Rattle.hush_syntax.specs.declared.nodes.Bodies.{Bodies}
use Rattle.hush_syntax.specs.declared.positions.Halt.{Halt}
use Rattle.hush_run.specs.Meaning.{bodies_of}
use Rattle.envimg_core.specs.Environment.{Environment, Pair}
use Rattle.envvars_core.specs.Attributes.{attributes}
use Rattle.envvars_core.specs.Types.{has_type}
use Rattle.fw_engines.specs.Streams.{Writers}
use Rattle.fw_engines.specs.Tool.{Prints, Texts, WritesNothing}
use Rattle.fw_engines.specs.declared.tool_end.ToolEnd.{ToolEnd}
use Rattle.fw_engines.specs.declared.tool_end.StreamFault.TheVariants as stream
use Rattle.fw_check.specs.declared.items.Item.{Item}
use Rattle.fw_check.specs.Called.{Given, in_answers}
use Rattle.fw_check.specs.Menus.{script_of}
use Rattle.fw_check.specs.Statements.{AreItemsOf}
use Rattle.fw_check.specs.Following.{Followed, follow_fronts, is_among, is_set}
use Rattle.fw_check.specs.Literals.{Front}
use Rattle.fw_check.specs.Naming.{asked_in, foreseen_in, given_in, run_in, written_in}
use Rattle.fw_check.specs.EntryPlaces.{EnvironmentText}
use Rattle.fw_check.specs.ReportLines.{Finding, found_at, Report, no_lines, report_end, with_alone, with_findings, with_placed, with_script}
use Rattle.fw_check.specs.FaultSentences.{halt_sentence}
use Rattle.fw_check.specs.Findings.{return_findings, item_findings, stored_findings}
use Rattle.fw_check.specs.Knowing.{Known, is_recut, names_by, rereads}
use Rattle.fw_check.specs.Lines.{Variable, Whole}
use Rattle.fw_check.specs.Origins.{Origin, origin_of, subject_of, value_place}
use Rattle.fw_check.specs.Quoting.{quoting_findings}
use Rattle.fw_check.specs.Summaries.{summary}

-- ---- one script

-- what a text is read as: where it stops being a script, or its statements
pub data Reading : Type 0 where
  Faulty : Halt → Reading
  Script : List Item → Reading

abbrev pub IsReading : Bodies → (asked : Bool) → List ℕ → Reading → Type 0
IsReading bodies asked text (Faulty halt) = (read_in bodies text ≡ None) × (halt_in bodies text ≡ Some halt)
IsReading bodies asked text (Script items) = AreItemsOf bodies asked text items

abbrev pub reading_findings : Option Known → Given → List ℕ → Reading → List Finding
reading_findings known given text (Faulty halt) = found_at halt.fault.place kind.Syntax (halt_sentence text halt) ∷ []
reading_findings known given text (Script items) = quoting_findings text ++ flat_map (item_findings known given (written text)) items

-- the first carriage return, the first backslash of a variable's script, and what is found from the start of the script on
abbrev pub findings : Option Known → Given → Origin → List ℕ → Reading → List Finding
findings known given origin text reading = return_findings text ++ stored_findings origin text ++ reading_findings known given text reading

-- ---- what is printed

-- whether something was found that counts
abbrev pub is_failed : Report → Bool
is_failed report = not (report.errors == 0) || report.choice.strict && not (report.warnings == 0)

-- that there is more is said after the findings in a text, and else before the last line: nothing else is among them there
abbrev pub output_end : Format → Bool → List ℕ
output_end format.Text cut = report_end cut
output_end f cut = []

abbrev pub errors_start : Format → Bool → List ℕ
errors_start format.Text cut = []
errors_start f cut = report_end cut

abbrev pub texts_of : Report → Texts
texts_of report = record {
  output = report.text ++ output_end report.choice.format report.cut;
  errors = errors_start report.choice.format report.cut ++ summary report;
  status = if is_failed report then 1 else 0;
}

abbrev pub PrintsReport : Writers → Writers → Report → ToolEnd → Type 0
PrintsReport old new report end = Prints old new (texts_of report) end

-- memory ran out before anything was written
abbrev pub LacksMemory : Writers → Writers → ToolEnd → Type 0
LacksMemory old new end = (end.fault ≡ Some stream.Memory) × WritesNothing old new × (end.status ≡ 1)

-- ---- the scripts of an environment

abbrev pub undefined_sentence : List ℕ
undefined_sentence = codes "no variable of this name is defined"

abbrev pub with_given : Environment → Report → List ℕ → Report
with_given env report name = if is_set env name then report else with_alone report (Variable name) kind.NoVariable undefined_sentence

-- a line for each given name that isn't defined
abbrev pub first_report : Choice → Environment → List (List ℕ) → Report
first_report choice env names = fold (with_given env) (no_lines choice) names

-- the script of a variable
abbrev pub script_in : Environment → List ℕ → List ℕ
script_in env name = script_of name (unwrap_or (get env name) [])

-- from the name of this index on, these names are followed: those that each one's script names are added last
abbrev pub AreFollowed : (in_text : List ℕ → List Front) → Followed → ℕ → List (List ℕ) → Type 0
AreFollowed in_text f index [] = slice_get f.names index ≡ None
AreFollowed in_text f index (v ∷ vs) =
    (slice_get f.names index ≡ Some v) × AreFollowed in_text (follow_fronts f (in_text (script_in f.env v))) (suc index) vs

-- these names are visited: what each one's script runs
abbrev pub AreVisited : Given → Followed → ℕ → List (List ℕ) → Type 0
AreVisited given f index names = AreFollowed (run_in given) f index names

-- the names in all these scripts, by those in a text
abbrev pub in_all : (names_in : List ℕ → List (List ℕ)) → Environment → List (List ℕ) → List (List ℕ)
in_all names_in env visited = flat_map (λ name. names_in (script_in env name)) visited

-- the same, and those in the texts that answer calls and in these of files
abbrev pub in_read : (names_in : List ℕ → List (List ℕ)) → Given → Environment → (texts : List (List ℕ)) → List (List ℕ) → List (List ℕ)
in_read names_in given env texts visited = in_answers names_in given.hardware ++ (flat_map names_in texts ++ in_all names_in env visited)

-- what is known of names, if these are the texts of files, and the names of the scripts that are read
abbrev pub known_after : Given → Environment → (texts : List (List ℕ)) → List (List ℕ) → Known
known_after given env texts visited = record {
  env = env;
  given = is_among (given.known ++ in_read (given_in given) given env texts visited);
  foreseen = is_among (in_read (foreseen_in given) given env texts visited);
  written = is_among (in_read (written_in given) given env texts visited);
  reread = is_among (names_by (list_any rereads) (entries env));
  recut = is_among (names_by is_recut (entries env));
}

-- the names of the scripts whose statuses these texts of files and these scripts ask for
abbrev pub asked_of_files : Given → Environment → (texts : List (List ℕ)) → Followed
asked_of_files given env texts = follow_fronts (record { env = env; names = [] }) (flat_map (asked_in given false) texts)

abbrev pub asked_first : Given → Environment → (texts visited : List (List ℕ)) → Followed
asked_first given env texts visited =
    follow_fronts (asked_of_files given env texts) (flat_map (λ name. asked_in given false (script_in env name)) visited)

-- and those whose statuses the ends of the scripts of these names ask for
abbrev pub AreAsked : Given → Environment → (texts visited asked : List (List ℕ)) → Type 0
AreAsked given env texts visited asked = AreFollowed (asked_in given true) (asked_first given env texts visited) 0 asked

-- a variable, and what its value is read as
pub record Visit : Type 0 where
  pub name : List ℕ
  pub reading : Reading

abbrev pub IsVisit : Bodies → Environment → (asked : List ℕ → Bool) → Visit → Type 0
IsVisit bodies env asked v = IsReading bodies (asked v.name) (script_in env v.name) v.reading

-- where a variable's script is told, by a report that it is added to
abbrev pub origin_in : Report → Option EnvironmentText → (name : List ℕ) → Origin
origin_in report file name = origin_of report.choice.format file name

abbrev pub after_visit : Environment → Option EnvironmentText → Option Known → Given → Report → Visit → Report
after_visit env file known given report v =
    with_findings (origin_in report file v.name) (script_in env v.name) (with_script report) (findings known given (origin_in report file v.name) (script_in env v.name) v.reading)

-- with what is found in the scripts of these names, `report` becomes `final`
abbrev pub Reports : Environment → Option EnvironmentText → Option Known → Given → (asked : List ℕ → Bool) → List (List ℕ) → Report → Report → Type 0
Reports env file known given asked names report final =
    (visits : List Visit) × (map (λ v. v.name) visits ≡ names) × AllByRecursion (IsVisit (bodies_of given.shell) env asked) visits
    × (fold (after_visit env file known given) report visits ≡ final)

-- what is followed after what a check begins with: what the texts run that answer calls, and then these of files
abbrev pub follow_texts : Given → (texts : List (List ℕ)) → Followed → Followed
follow_texts given texts f = follow_fronts (follow_fronts f (in_answers (run_in given) given.hardware)) (flat_map (run_in given) texts)

-- ---- no script, and values without their types

-- a line if no script was looked at
abbrev pub with_none : Report → Report
with_none report =
    if report.scripts == 0 then with_alone report Whole kind.NoScript (codes "there is no script to look at") else report

abbrev pub mistyped_sentence : List ℕ
mistyped_sentence = codes "the value does not have the type that .flags gives it"

abbrev pub with_mistyped : Report → Origin → Report
with_mistyped report origin = with_placed report (subject_of origin) (value_place origin) kind.ValueType mistyped_sentence

abbrev pub with_typed : Environment → Option EnvironmentText → Report → Pair → Report
with_typed env file report p =
    if has_type (attributes env p.0).kind p.1 then report else with_mistyped report (origin_in report file p.0)

-- a line for each variable whose value doesn't have the type that `.flags` gives it, in ascending order of
-- the names' bytes
abbrev pub with_types : Environment → Option EnvironmentText → Report → Report
with_types env file report = fold (with_typed env file) report (entries env)

-- these, unless the scripts of files are checked
abbrev pub with_whole : (alone : Bool) → Environment → Option EnvironmentText → Report → Report
with_whole alone env file report = if alone then with_types env file (with_none report) else report
