-- How often standard input would be read (docs/tools.md, "The command line").
use Rattle.std.specs.Prelude.{ℕ, ◌+◌, ◌||◌, Bool, List, filter, length, map, nat_lt, codes, if◌then◌else◌}
use Rattle.std.specs.Str.{bytes_eq}
use Rattle.clap.specs.Words.{Row, Text}
use Rattle.fw_arguments.specs.Values.{all_values}
use Rattle.fw_arguments.specs.declared.standard_input.TheConstants.{STANDARD_INPUT, TEXTS}

-- the path that is standard input
abbrev pub is_dash : Text → Bool
is_dash path = bytes_eq path STANDARD_INPUT.now

abbrev pub dashes : List Text → ℕ
dashes paths = length (filter is_dash paths)

abbrev pub is_input : List Row → Text → Bool
is_input rows id = nat_lt 0 (dashes (all_values id rows))

-- how many of the texts that the arguments name are standard input
abbrev pub inputs : List Row → ℕ
inputs rows = length (filter (is_input rows) (map (λ id. id.now) TEXTS)) + dashes (all_values (codes "after") rows)

-- two of them, or one beside the lines of a session; of `script` and of `after` there may be several
abbrev pub reads_twice : Text → List Row → Bool
reads_twice name rows =
    nat_lt 1 (dashes (all_values (codes "script") rows))
    || (if bytes_eq name (codes "session") then nat_lt 0 (inputs rows) else nat_lt 1 (inputs rows))

-- what is wrong then
abbrev pub read_twice : Text
read_twice = codes "error: '-' is standard input, which can be read once\n\nFor more information, try '--help'.\n"
