-- What is found, and the report of its lines (docs/check.md).
use Rattle.std.specs.Prelude.{ℕ, ◌+◌, ◌-◌, ◌^◌, ◌&&◌, ◌||◌, min, nat_le, not, Bool, true, false, List, [], ◌++◌, length, fold, codes, Option, Some, None, if◌then◌else◌}
use Rattle.std.specs.List.{fold}
use Rattle.finding_kinds.specs.Choices.{Choice, is_ignored}
use Rattle.finding_kinds.specs.Kinds.{severity_of}
use Rattle.finding_kinds.specs.declared.kinds.FindingKind.{FindingKind}
use Rattle.finding_kinds.specs.declared.kinds.Severity.{Severity}
use Rattle.finding_kinds.specs.declared.kinds.Severity.TheVariants as severity
use Rattle.fw_engines.specs.declared.text_places.Place.{Place}
use Rattle.fw_check.specs.JsonLines.{line_in}
use Rattle.fw_check.specs.Lines.{Line, Subject}
use Rattle.fw_check.specs.Origins.{Origin, place_in, subject_of}

-- `count` bytes of the script are before it
pub record Finding : Type 0 where
  pub count : ℕ
  pub kind : FindingKind
  pub sentence : List ℕ

abbrev pub found_at : ℕ → FindingKind → List ℕ → Finding
found_at count kind sentence = record { count = count; kind = kind; sentence = sentence }

-- its line in a script with this text
abbrev pub line_at : Origin → (text : List ℕ) → Finding → Line
line_at origin text f = record { subject = subject_of origin; place = Some (place_in origin text f.count); kind = f.kind; sentence = f.sentence; spot = Some (record { text = text; count = f.count }) }

-- ---- the report

-- lines, whether something was found that has no line, how many scripts were looked at and how many errors and warnings were found
-- in them, and what the check is asked
pub record Report : Type 0 where
  pub text : List ℕ
  pub cut : Bool
  pub scripts : ℕ
  pub errors : ℕ
  pub warnings : ℕ
  pub choice : Choice

abbrev pub no_lines : Choice → Report
no_lines choice = record { text = []; cut = false; scripts = 0; errors = 0; warnings = 0; choice = choice }

-- one more is counted, up to the most of 64 bits
abbrev pub one_more : ℕ → ℕ
one_more n = min (n + 1) (2 ^ 64 - 1)

abbrev pub with_script : Report → Report
with_script report = record report { scripts = one_more report.scripts }

-- so many errors and warnings after one more finding
abbrev pub errors_after : Severity → ℕ → ℕ
errors_after severity.Error n = one_more n
errors_after severity.Warning n = n
errors_after severity.Note n = n

abbrev pub warnings_after : Severity → ℕ → ℕ
warnings_after severity.Error n = n
warnings_after severity.Warning n = one_more n
warnings_after severity.Note n = n

abbrev pub counted : Report → Severity → Report
counted report s = record report { errors = errors_after s report.errors; warnings = warnings_after s report.warnings }

-- no further line is added once there are this many bytes
abbrev pub most_text : ℕ
most_text = 65536

abbrev pub is_full : Report → Bool
is_full report = nat_le most_text (length report.text)

-- whether what is found gets a line
abbrev pub has_line : Report → FindingKind → Bool
has_line report k = not (is_ignored report.choice k) && not (is_full report)

abbrev pub noted : Report → FindingKind → Report
noted report k =
    if is_ignored report.choice k then report
    else counted (record report { cut = report.cut || is_full report }) (severity_of k)

abbrev pub with_line : Report → Line → Report
with_line report l =
    if has_line report l.kind then record (noted report l.kind) { text = report.text ++ line_in report.choice.format l }
    else noted report l.kind

abbrev pub with_finding : Origin → (text : List ℕ) → Report → Finding → Report
with_finding origin text report f = with_line report (line_at origin text f)

abbrev pub with_findings : Origin → (text : List ℕ) → Report → List Finding → Report
with_findings origin text report fs = fold (with_finding origin text) report fs

-- a note after them that there is more
abbrev pub report_end : Bool → List ℕ
report_end true = codes "more is found, and not printed\n"
report_end false = []

-- one more line, of what is in no script
abbrev pub with_placed : Report → Subject → Option Place → FindingKind → (sentence : List ℕ) → Report
with_placed report subject place k sentence = with_line report (record { subject = subject; place = place; kind = k; sentence = sentence; spot = None })

abbrev pub with_alone : Report → Subject → FindingKind → (sentence : List ℕ) → Report
with_alone report subject k sentence = with_placed report subject None k sentence
