-- How the findings of a check are printed, as the arguments choose (docs/check.md, "Formats").
use Rattle.std.specs.Prelude.{List, Option, Some, None, Result, codes, if◌then◌else◌}
use Rattle.std.specs.Str.{bytes_eq}
use Rattle.clap.specs.Words.{Row, Text}
use Rattle.finding_kinds.specs.declared.choice.Format.{Format}
use Rattle.finding_kinds.specs.declared.choice.Format.TheVariants as format
use Rattle.fw_arguments.specs.Values.{first_or, value_or}

-- the format of this name, if there is one
abbrev pub format_named : Text → Option Format
format_named name =
    if bytes_eq name (codes "text") then Some format.Text
    else if bytes_eq name (codes "gcc") then Some format.Gcc
    else if bytes_eq name (codes "json") then Some format.Json
    else None

-- what is wrong with another name
abbrev pub bad_format : Text
bad_format = codes "' for '--format <FORMAT>'\n  [possible values: text, gcc, json]\n\nFor more information, try '--help'.\n"

-- the format that is named; text if none is
abbrev pub format_of : List Row → Result Format Text
format_of rows = value_or bad_format (first_or (codes "text") (codes "format") rows) (format_named (first_or (codes "text") (codes "format") rows))
