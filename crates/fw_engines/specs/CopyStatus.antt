-- What is reported of stored copies, line by line (docs/status.md).
use Rattle.std.specs.Prelude.{◌≡◌, ◌⊎◌, ℕ, ◌==◌, Bool, true, false, List, [], ◌∷◌, length, take, codes, Option, Some, None, option_map, if◌then◌else◌}
use Rattle.std.specs.List.{concat, flat_map}
use Rattle.std.specs.Fmt.{decimal}
use Rattle.std.specs.FinMap.{entries}
use Rattle.std.specs.Io.KnownBytes.{Keeps}
use Rattle.hush_calc.specs.Hexadecimal.{hexadecimal}
use Rattle.envimg_core.specs.Environment.{Environment, used}
use Rattle.envimg_core.specs.Geometry.{Shape, area_of}
use Rattle.envimg_core.specs.Pieces.{entries_of, vars_of}
use Rattle.envimg_core.specs.State.{flag_of, state_of}
use Rattle.envimg_core.specs.declared.choice.Choice.{Choice}
use Rattle.envimg_core.specs.declared.choice.Choice.TheVariants.{First, Second, Neither}
use Rattle.envimg_core.specs.declared.geometry.Layout.{Layout}
use Rattle.envimg_core.specs.declared.geometry.Layout.TheVariants.{Single, Redundant}
use Rattle.envimg_core.specs.declared.geometry.Order.{Order}
use Rattle.envimg_core.specs.declared.geometry.Order.TheVariants.{Little, Big}
use Rattle.envimg_core.specs.declared.state.CopyState.{CopyState}
use Rattle.envimg_core.specs.declared.state.CopyState.TheVariants.{Good, BadLength, BadCrc, Unterminated}
use Rattle.env_session.specs.Session.{flag_after, opening_choice}
use Rattle.fw_engines.specs.Shown.{state_shown}
use Rattle.fw_engines.specs.SkippedLines.{skipped_lines}
use Rattle.fw_engines.specs.Tool.{PrintsText}
use Rattle.fw_engines.specs.Ways.{good_as, good_way, is_filled}
use Rattle.fw_engines.specs.declared.copy_status.FoundCopy.{FoundCopy}
use Rattle.fw_engines.specs.declared.copy_status.Survey.{Survey}
use Rattle.fw_engines.specs.declared.tool_end.ToolEnd.{ToolEnd}
use Rattle.fw_engines.specs.declared.tool_end.StreamFault.TheVariants.{Memory}
use Rattle.fw_engines.specs.declared.ways.Meant.{Meant}

-- a text and an exit status
pub record Report : Type 0 where
  pub text : List ℕ
  pub status : ℕ

-- ---- the words of one copy

-- what is wrong with a copy
abbrev pub fault_words : CopyState → List ℕ
fault_words (Good flag) = codes "good"
fault_words BadLength = codes "length is wrong"
fault_words BadCrc = codes "checksum is wrong"
fault_words Unterminated = codes "list of entries isn't ended"

-- a layout other than the one meant
abbrev pub layout_words : Option Layout → Layout → List ℕ
layout_words (Some Single) Single = []
layout_words (Some Redundant) Redundant = []
layout_words (Some Redundant) Single = codes " as a single image"
layout_words (Some Single) Redundant = codes " as a copy with a flag"
layout_words None Single = codes " as a single image"
layout_words None Redundant = codes " as a copy with a flag"

-- a byte order other than the one meant
abbrev pub order_words : Order → Order → List ℕ
order_words Little Little = []
order_words Big Big = []
order_words Little Big = codes " with --big-endian"
order_words Big Little = codes " without --big-endian"

-- a size other than the one meant
abbrev pub size_words : ℕ → ℕ → List ℕ
size_words meant size = if size == meant then [] else concat (codes " with size 0x" ∷ hexadecimal size ∷ [])

-- the way in which bytes are good, as far as it differs from the one meant
abbrev pub way_words : Meant → Shape → List ℕ
way_words meant way = concat (codes " good" ∷ layout_words meant.layout way.layout ∷ order_words meant.order way.order ∷ size_words meant.size way.size ∷ [])

abbrev pub way_hint : Meant → Option Shape → List ℕ
way_hint meant None = []
way_hint meant (Some way) = concat (codes "," ∷ way_words meant way ∷ [])

-- what may help if bytes aren't good as meant
unfoldable pub hint_words : Meant → List ℕ → List ℕ
hint_words meant bytes =
    if is_filled 255 (take meant.size bytes) then codes ", erased (all bytes FF)"
    else if is_filled 0 (take meant.size bytes) then codes ", erased (all bytes 00)"
    else way_hint meant (good_way meant bytes)

abbrev pub bad_words : CopyState → Meant → List ℕ → List ℕ
bad_words state meant bytes = concat (fault_words state ∷ hint_words meant bytes ∷ [])

abbrev pub good_words : Layout → ℕ → List ℕ
good_words Single flag = codes "good"
good_words Redundant flag = concat (codes "good, flag " ∷ decimal flag ∷ [])

abbrev pub meant_by : Shape → Meant
meant_by shape = record { layout = Some shape.layout; order = shape.order; size = shape.size }

abbrev pub words_by_state : CopyState → Shape → List ℕ → List ℕ
words_by_state (Good flag) shape bytes = good_words shape.layout flag
words_by_state BadLength shape bytes = bad_words BadLength (meant_by shape) bytes
words_by_state BadCrc shape bytes = bad_words BadCrc (meant_by shape) bytes
words_by_state Unterminated shape bytes = bad_words Unterminated (meant_by shape) bytes

-- the copy that some bytes begin with
unfoldable pub copy_words : Shape → List ℕ → List ℕ
copy_words shape bytes = words_by_state (state_of shape (take shape.size bytes)) shape bytes

abbrev pub current_words : Bool → List ℕ
current_words true = codes ", current"
current_words false = []

-- where a copy is
abbrev pub place_words : List ℕ → Shape → FoundCopy → List ℕ
place_words label shape copy =
    concat (label ∷ copy.device.now ∷ codes " at 0x" ∷ hexadecimal copy.start ∷ codes ", " ∷ decimal shape.size ∷ codes " bytes: " ∷ [])

-- where it is, its state, and whether it is current
unfoldable pub copy_line : List ℕ → Shape → Bool → FoundCopy → List ℕ
copy_line label shape current copy =
    concat (place_words label shape copy ∷ copy_words shape copy.bytes.now ∷ current_words current ∷ (10 ∷ []) ∷ [])

-- ---- the copies

abbrev pub is_first : Choice → Bool
is_first First = true
is_first Second = false
is_first Neither = false

abbrev pub is_second : Choice → Bool
is_second First = false
is_second Second = true
is_second Neither = false

abbrev pub copy_lines : Shape → Choice → FoundCopy → Option FoundCopy → List ℕ
copy_lines shape current first None = copy_line (codes "single image ") shape false first
copy_lines shape current first (Some second) =
    concat (copy_line (codes "first copy   ") shape (is_first current) first ∷ copy_line (codes "second copy  ") shape (is_second current) second ∷ [])

-- ---- the variables of the current copy

abbrev pub no_variables : List ℕ
no_variables = codes "variables    none, no copy is good\n"

-- how many there are, and how many bytes of `room` they take
abbrev pub counts_line : (variables taken room : ℕ) → List ℕ
counts_line variables taken room =
    concat (codes "variables    " ∷ decimal variables ∷ codes ", " ∷ decimal taken ∷ codes " of " ∷ decimal room ∷ codes " bytes used\n" ∷ [])

abbrev pub count_line : Environment → ℕ → List ℕ
count_line env room = counts_line (length (entries env)) (used env) room

abbrev pub variables_by_state : CopyState → List ℕ → List ℕ
variables_by_state (Good flag) area = count_line (vars_of (entries_of area)) (length area)
variables_by_state BadLength area = no_variables
variables_by_state BadCrc area = no_variables
variables_by_state Unterminated area = no_variables

abbrev pub variables_line : Shape → Option (List ℕ) → List ℕ
variables_line shape None = no_variables
variables_line shape (Some copy) = variables_by_state (state_of shape copy) (area_of shape copy)

abbrev pub current_copy : Choice → List ℕ → Option (List ℕ) → Option (List ℕ)
current_copy First first second = Some first
current_copy Second first second = second
current_copy Neither first second = None

-- ---- the copy that a save writes, if there are two

abbrev pub next_line : List ℕ → ℕ → List ℕ
next_line label flag = concat (codes "next save    " ∷ label ∷ codes ", flag " ∷ decimal (flag_after flag) ∷ (10 ∷ []) ∷ [])

abbrev pub next_save : Choice → Layout → List ℕ → Option (List ℕ) → List ℕ
next_save First layout first (Some second) = next_line (codes "second copy") (flag_of layout first)
next_save Second layout first (Some second) = next_line (codes "first copy") (flag_of layout second)
next_save Neither layout first (Some second) = []
next_save current layout first None = []

-- ---- lines of the configuration

abbrev pub skipped_line : List ℕ → ℕ → List ℕ
skipped_line path number = concat (codes "skipped      line " ∷ decimal number ∷ codes " of " ∷ path ∷ (10 ∷ []) ∷ [])

-- ---- all of it

abbrev pub status_by : Choice → ℕ
status_by First = 0
status_by Second = 0
status_by Neither = 1

-- the copy in what was found: as many bytes as a copy has
abbrev pub copy_in : Shape → FoundCopy → List ℕ
copy_in shape found = take shape.size found.bytes.now

abbrev pub chosen_in : Shape → FoundCopy → Option FoundCopy → Choice
chosen_in shape first second = opening_choice shape (copy_in shape first) (option_map (copy_in shape) second)

abbrev pub lines_of : Shape → FoundCopy → Option FoundCopy → List ℕ → List ℕ → List ℕ
lines_of shape first second path config =
    let one = copy_in shape first in
    let other = option_map (copy_in shape) second in
    let current = chosen_in shape first second in
    concat (copy_lines shape current first second
    ∷ variables_line shape (current_copy current one other)
    ∷ next_save current shape.layout one other
    ∷ flat_map (skipped_line path) (skipped_lines config)
    ∷ [])

-- the lines, and the status: 0 if a copy is good
abbrev pub status_of : Survey → Report
status_of s = record {
  text = lines_of s.geometry s.first s.second s.path.now s.config.now;
  status = status_by (chosen_in s.geometry s.first s.second);
}

-- ---- a whole file

abbrev pub whole_words : Layout → ℕ → List ℕ
whole_words Single flag = codes "good as a single image"
whole_words Redundant flag = concat (codes "good as a copy with a flag, flag " ∷ decimal flag ∷ [])

abbrev pub path_words : List ℕ → ℕ → List ℕ
path_words path size = concat (codes "whole file   " ∷ path ∷ codes ", " ∷ decimal size ∷ codes " bytes: " ∷ [])

abbrev pub whole_line : List ℕ → List ℕ → List ℕ → List ℕ
whole_line path bytes words = concat (path_words path (length bytes) ∷ words ∷ (10 ∷ []) ∷ [])

-- good in this shape: what it is, and its variables
abbrev pub good_file : List ℕ → List ℕ → Shape → Report
good_file path bytes shape = record {
  text = concat (whole_line path bytes (whole_words shape.layout (flag_of shape.layout bytes)) ∷ variables_line shape (Some bytes) ∷ []);
  status = 0;
}

abbrev pub bad_file : Order → List ℕ → List ℕ → Report
bad_file order path bytes = record {
  text = concat (whole_line path bytes (bad_words (state_shown order bytes) (record { layout = None; order = order; size = length bytes }) bytes) ∷ no_variables ∷ []);
  status = 1;
}

abbrev pub file_by : Option Shape → Option Shape → Order → List ℕ → List ℕ → Report
file_by (Some single) flagged order path bytes = good_file path bytes single
file_by None (Some flagged) order path bytes = good_file path bytes flagged
file_by None None order path bytes = bad_file order path bytes

-- the file as a single image of this byte order, or else as a copy with a flag, or else what is wrong with it
abbrev pub file_status_of : Order → List ℕ → List ℕ → Report
file_status_of order path bytes =
    file_by (good_as bytes (record { layout = Single; size = length bytes; order = order }))
    (good_as bytes (record { layout = Redundant; size = length bytes; order = order })) order path bytes

-- ---- how a report ends: it was printed, or less than it; or memory ran out before
abbrev pub Reports : Option (List ℕ) → Option (List ℕ) → Report → ToolEnd → Type 0
Reports old new report end =
    PrintsText old new report.text report.status end ⊎ ((end.fault ≡ Some Memory) × Keeps old new × (end.status ≡ 1))
