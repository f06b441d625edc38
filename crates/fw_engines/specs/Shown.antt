-- What the bytes of one single image print (docs/tools.md, "fwenv without a subcommand").
use Rattle.std.specs.Prelude.{ℕ, ◌&&◌, nat_le, if◌then◌else◌, List, [], ◌∷◌, ◌++◌, length, drop, codes}
use Rattle.std.specs.List.{flat_map}
use Rattle.std.specs.FinMap.{entries}
use Rattle.envimg_core.specs.Environment.{Environment, Pair, entry_text}
use Rattle.envimg_core.specs.Pieces.{entries_of, vars_of}
use Rattle.envimg_core.specs.State.{state_of}
use Rattle.envimg_core.specs.declared.geometry.Layout.TheVariants.{Single}
use Rattle.envimg_core.specs.declared.geometry.Order.{Order}
use Rattle.envimg_core.specs.declared.state.CopyState.{CopyState}
use Rattle.envimg_core.specs.declared.state.CopyState.TheVariants.{Good, BadLength, BadCrc, Unterminated}
use Rattle.fw_engines.specs.Streams.{Streams, writers_of}
use Rattle.fw_engines.specs.Tool.{Texts, Took, Printed}
use Rattle.fw_engines.specs.declared.tool_end.ToolEnd.{ToolEnd}

-- name=value and a newline
abbrev pub line_of : Pair → List ℕ
line_of p = entry_text p ++ 10 ∷ []

-- a line for each variable, in ascending order of the names' bytes
abbrev pub listing : Environment → List ℕ
listing env = flat_map line_of (entries env)

-- the state of all the bytes as one single image of this byte order; a length that is no size is a bad length
abbrev pub state_shown : Order → List ℕ → CopyState
state_shown order bytes =
    if nat_le 8 (length bytes) && nat_le (length bytes) 1048576
    then state_of (record { layout = Single; size = length bytes; order = order }) bytes
    else BadLength

abbrev pub bad_image : List ℕ → Texts
bad_image kind = record { output = []; errors = codes "## Error: bad image: " ++ kind ++ 10 ∷ []; status = 1 }

abbrev pub shown_in : CopyState → List ℕ → Texts
shown_in (Good flag) bytes = record { output = listing (vars_of (entries_of (drop 4 bytes))); errors = []; status = 0 }
shown_in BadLength bytes = bad_image (codes "BadLength")
shown_in BadCrc bytes = bad_image (codes "BadCrc")
shown_in Unterminated bytes = bad_image (codes "Unterminated")

abbrev pub shown : Order → List ℕ → Texts
shown order bytes = shown_in (state_shown order bytes) bytes

-- the most bytes that are read: one more than the greatest image has
abbrev pub read_limit : ℕ
read_limit = 1048577

-- a whole call, by its streams before and after it
abbrev pub Shows : Order → Streams → Streams → ToolEnd → Type 0
Shows order old new end =
    (bytes : List ℕ) × Took end.fault old.input new.input read_limit bytes × Printed end.fault (writers_of old) (writers_of new) (shown order bytes) end.status
