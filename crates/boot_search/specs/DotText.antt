-- The graph of a survey, as Graphviz reads it (docs/boot.md).
use Rattle.std.specs.Prelude.{◌+◌, ◌/◌, ◌%◌, ◌==◌, if◌then◌else◌, nat_le, nat_lt, ℕ, List, [], ◌∷◌, ◌++◌, length, slice_get, slice_index, Option, None, Some, Bool, true, false, codes}
use Rattle.std.specs.List.{flat_map}
use Rattle.std.specs.Fmt.{decimal}
use Rattle.boot_search.specs.declared.board.End.{End}
use Rattle.boot_search.specs.declared.board.End.TheVariants.{Boots, Resets, GivesUp, Unknown}
use Rattle.boot_search.specs.declared.dot_words.Mark.{Mark}
use Rattle.boot_search.specs.declared.dot_words.Mark.TheVariants.{Plain, Doubtful, Lost}
use Rattle.boot_search.specs.Outcomes.{Given}
use Rattle.boot_search.specs.Reports.{Step}
use Rattle.boot_search.specs.SurveyText.{Told, answer_text, end_text, limit_line, stored_name, summary_line}

-- ---- a text in quotes

abbrev pub hex_digit : ℕ → ℕ
hex_digit n = slice_index (codes "0123456789abcdef") n

-- a byte that isn't a printed one of ASCII
abbrev pub hex_byte : ℕ → List ℕ
hex_byte byte = codes "\\\\x" ++ hex_digit (byte / 16) ∷ hex_digit (byte % 16) ∷ []

-- printed ones are as they are but for three; a line ends on the left
abbrev pub quoted_byte : ℕ → List ℕ
quoted_byte byte =
    if byte == 10 then codes "\\l" else if byte == 34 then codes "\\\"" else if byte == 92 then codes "\\\\" else if byte == 38 then codes "&amp;"
    else if nat_le 32 byte then (if nat_lt byte 127 then byte ∷ [] else hex_byte byte) else hex_byte byte

abbrev pub quoted : List ℕ → List ℕ
quoted text = codes "\"" ++ flat_map quoted_byte text ++ codes "\""

-- what is written in a node or at an edge, and how that looks
abbrev pub label_text : (text style : List ℕ) → List ℕ
label_text text style = codes " [label=" ++ quoted text ++ style ++ codes "];\n"

-- ---- nodes

-- a stored environment's, by its place
abbrev pub node_name : ℕ → List ℕ
node_name place = codes "s" ++ decimal (place + 1)

abbrev pub line_start : ℕ → List ℕ
line_start place = codes "  " ++ node_name place

abbrev pub is_unset : Option Bool → Bool
is_unset (Some false) = true
is_unset (Some true) = false
is_unset None = false

-- what is said of a stored environment, if all is listed
abbrev pub mark_by : (complete lost doubtful : Bool) → Mark
mark_by true true doubtful = Lost
mark_by true false true = Doubtful
mark_by true false false = Plain
mark_by false lost doubtful = Plain

abbrev pub mark_of : Told → ℕ → Mark
mark_of t place = mark_by t.complete (is_unset (slice_get t.may_boot place)) (is_unset (slice_get t.boots place))

abbrev pub note_text : Mark → List ℕ
note_text Plain = []
note_text Doubtful = codes "boots only if a limit of the run isn't met\n"
note_text Lost = codes "never boots again\n"

abbrev pub mark_style : Mark → List ℕ
mark_style Plain = codes " shape=box"
mark_style Doubtful = codes " shape=box color=orange penwidth=2"
mark_style Lost = codes " shape=box color=red penwidth=2"

-- its name, what the board tells of it, and what is said of it
abbrev pub node_text : (tells : List ℕ → List ℕ) → Mark → ℕ → List ℕ → List ℕ
node_text tells mark place state = stored_name place ++ codes "\n" ++ tells state ++ note_text mark

abbrev pub node_line : (tells : List ℕ → List ℕ) → Mark → ℕ → List ℕ → List ℕ
node_line tells mark place state = line_start place ++ label_text (node_text tells mark place state) (mark_style mark)

-- the same of each from this place on
abbrev pub node_lines : (tells : List ℕ → List ℕ) → Told → ℕ → List (List ℕ) → List ℕ
node_lines tells t place [] = []
node_lines tells t place (state ∷ others) = node_line tells (mark_of t place) place state ++ node_lines tells t (place + 1) others

-- ---- edges

abbrev pub answer_line : Given → List ℕ
answer_line g = answer_text g ++ codes "\n"

abbrev pub edge_text : Step → List ℕ
edge_text w = flat_map answer_line w.answers ++ end_text w.end w.by ++ codes "\n"

-- A way leads to what is stored then. If that is the same it leads to how it ended, but for a reset.
abbrev pub end_node : End → (to : ℕ) → List ℕ
end_node Boots to = codes "boots"
end_node Resets to = node_name to
end_node GivesUp to = codes "\"gives up\""
end_node Unknown to = codes "unknown"

abbrev pub edge_to : Step → List ℕ
edge_to w = if w.to == w.from then end_node w.end w.to else node_name w.to

abbrev pub end_style : End → List ℕ
end_style Boots = codes " color=darkgreen"
end_style Resets = []
end_style GivesUp = codes " color=red"
end_style Unknown = codes " color=orange"

abbrev pub edge_start : ℕ → List ℕ
edge_start from = line_start from ++ codes " -> "

abbrev pub edge_line : Step → List ℕ
edge_line w = edge_start w.from ++ edge_to w ++ label_text (edge_text w) (end_style w.end)

-- ---- the graph

abbrev pub caption : Told → List ℕ
caption t = summary_line (length t.stored) t.ways ++ (if t.complete then [] else limit_line)

abbrev pub caption_line : Told → List ℕ
caption_line t = codes "  label=" ++ quoted (caption t) ++ codes ";\n"

abbrev pub dot_of : (tells : List ℕ → List ℕ) → Told → List ℕ
dot_of tells t = codes "digraph boot {\n" ++ caption_line t ++ node_lines tells t 0 t.stored ++ flat_map edge_line t.ways ++ codes "}\n"
