-- The lines of a check, as text (docs/check.md, "Formats").
use Rattle.std.specs.Prelude.{ℕ, ◌==◌, ◌||◌, nat_lt, List, [], ◌∷◌, ◌++◌, codes, Option, Some, None, option_map, if◌then◌else◌}
use Rattle.std.specs.Fmt.{decimal}
use Rattle.std.specs.List.{concat}
use Rattle.finding_kinds.specs.Kinds.{code_of, severity_of}
use Rattle.finding_kinds.specs.declared.kinds.FindingKind.{FindingKind}
use Rattle.finding_kinds.specs.declared.kinds.Severity.{Severity}
use Rattle.finding_kinds.specs.declared.kinds.Severity.TheVariants as severity
use Rattle.fw_engines.specs.declared.text_places.Place.{Place}
use Rattle.fw_check.specs.Excerpts.{Spot, spot_view}
use Rattle.fw_check.specs.declared.lines.Line as lines
use Rattle.fw_check.specs.declared.lines.Subject as subjects
use Rattle.fw_check.specs.declared.lines.Subject.TheVariants as code

-- what a line is about: the file of this path, the variable of this name, the entry of this path and name, or the check as a whole
pub data Subject : Type 0 where
  File : List ℕ → Subject
  Variable : List ℕ → Subject
  Entry : (path name : List ℕ) → Subject
  Whole : Subject

-- a finding, as it is told: it may have no place, and what is in a script is at a place of its text
pub record Line : Type 0 where
  pub subject : Subject
  pub place : Option Place
  pub kind : FindingKind
  pub sentence : List ℕ
  pub spot : Option Spot

-- ---- as text

abbrev pub subject_text : Subject → List ℕ
subject_text (File path) = path
subject_text (Variable name) = name
subject_text (Entry path name) = path
subject_text Whole = codes "check"

abbrev pub severity_name : Severity → List ℕ
severity_name severity.Error = codes "error"
severity_name severity.Warning = codes "warning"
severity_name severity.Note = codes "note"

-- what it is about, and where
abbrev pub head_text : (name : List ℕ) → Option Place → List ℕ
head_text name None = name
head_text name (Some place) = concat (name ∷ codes ":" ∷ decimal place.line ∷ codes ":" ∷ decimal place.column ∷ [])

abbrev pub severity_text : FindingKind → List ℕ
severity_text k = codes ": " ++ severity_name (severity_of k) ++ codes ": "

abbrev pub code_text : FindingKind → List ℕ
code_text k = codes " [" ++ code_of k ++ codes "]"

-- how severe it is, the sentence, and the code of its kind
abbrev pub said_of : FindingKind → (sentence : List ℕ) → List ℕ
said_of k sentence = severity_text k ++ sentence ++ code_text k

abbrev pub line_text : Line → List ℕ
line_text l = head_text (subject_text l.subject) l.place ++ said_of l.kind l.sentence

-- ---- as compilers print it: on one line, whatever bytes a name has

abbrev pub plain_byte : ℕ → ℕ
plain_byte b = if nat_lt b 32 || b == 127 then 63 else b

-- the code's lines, in this form
abbrev pub subject_view : subjects.Subject → Subject
subject_view (code.File path) = File path.now
subject_view (code.Variable name) = Variable name.now
subject_view (code.Entry path name) = Entry path.now name.now
subject_view code.Whole = Whole

abbrev pub line_view : lines.Line → Line
line_view l = record { subject = subject_view l.subject; place = l.place; kind = l.kind; sentence = l.before.now ++ l.name.now ++ l.after.now; spot = option_map spot_view l.spot }
