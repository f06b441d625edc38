-- A finding as JSON, and in each format (docs/check.md, "Formats").
use Rattle.std.specs.Prelude.{ℕ, List, [], ◌∷◌, ◌++◌, map, Option, Some, None, codes}
use Rattle.std.specs.Fmt.{decimal}
use Rattle.std.specs.Str.Lossy.{utf8_lossy}
use Rattle.serde_json.specs.Data.{string}
use Rattle.serde_json.specs.Written.{compact_text}
use Rattle.finding_kinds.specs.Kinds.{code_of, severity_of}
use Rattle.finding_kinds.specs.declared.choice.Format.{Format}
use Rattle.finding_kinds.specs.declared.choice.Format.TheVariants as format
use Rattle.finding_kinds.specs.declared.kinds.FindingKind.{FindingKind}
use Rattle.fw_engines.specs.declared.text_places.Place.{Place}
use Rattle.fw_check.specs.Excerpts.{excerpt_of}
use Rattle.fw_check.specs.Lines.{Entry, File, Line, Subject, Variable, Whole, line_text, plain_byte, severity_name}

-- a text as JSON has it, in quotes. JSON has characters: what isn't UTF-8 becomes U+FFFD
abbrev pub text_json : List ℕ → List ℕ
text_json bytes = compact_text (string (utf8_lossy bytes))

-- the members of an object in order of their names: the value of one, and the name of the next
abbrev pub code_member : FindingKind → List ℕ
code_member k = codes "{\"code\":\"" ++ code_of k ++ codes "\",\"column\":"

abbrev pub column_member : Option Place → List ℕ
column_member None = codes "null,\"file\":"
column_member (Some place) = decimal place.column ++ codes ",\"file\":"

abbrev pub file_member : Subject → List ℕ
file_member (File path) = text_json path ++ codes ",\"line\":"
file_member (Variable name) = codes "null,\"line\":"
file_member (Entry path name) = text_json path ++ codes ",\"line\":"
file_member Whole = codes "null,\"line\":"

abbrev pub line_member : Option Place → List ℕ
line_member None = codes "null,\"message\":"
line_member (Some place) = decimal place.line ++ codes ",\"message\":"

abbrev pub message_member : (sentence : List ℕ) → List ℕ
message_member sentence = text_json sentence ++ codes ",\"severity\":\""

abbrev pub severity_member : FindingKind → List ℕ
severity_member k = severity_name (severity_of k) ++ codes "\",\"variable\":"

abbrev pub variable_member : Subject → List ℕ
variable_member (File path) = codes "null}"
variable_member (Variable name) = text_json name ++ codes "}"
variable_member (Entry path name) = text_json name ++ codes "}"
variable_member Whole = codes "null}"

abbrev pub first_members : Line → List ℕ
first_members l = code_member l.kind ++ column_member l.place

abbrev pub second_members : Line → List ℕ
second_members l = file_member l.subject ++ line_member l.place

abbrev pub last_members : Line → List ℕ
last_members l = severity_member l.kind ++ variable_member l.subject

abbrev pub place_members : Line → List ℕ
place_members l = first_members l ++ second_members l

abbrev pub told_members : Line → List ℕ
told_members l = message_member l.sentence ++ last_members l

abbrev pub json_text : Line → List ℕ
json_text l = place_members l ++ told_members l

-- ---- in each format

abbrev pub line_in : Format → Line → List ℕ
line_in format.Text l = line_text l ++ 10 ∷ excerpt_of l.spot
line_in format.Gcc l = map plain_byte (line_text l) ++ 10 ∷ []
line_in format.Json l = json_text l ++ 10 ∷ []
