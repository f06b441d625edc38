-- Which copy's variables are printed, as the arguments choose (docs/tools.md, "Subcommands over files").
use Rattle.std.specs.Prelude.{List, Option, Some, None, Result, Ok, codes, if◌then◌else◌}
use Rattle.std.specs.Str.{bytes_eq}
use Rattle.clap.specs.Words.{Row, Text, first_of}
use Rattle.fw_arguments.specs.Values.{value_or}
use Rattle.fw_arguments.specs.declared.wanted_copy.WantedCopy.{WantedCopy}
use Rattle.fw_arguments.specs.declared.wanted_copy.WantedCopy.TheVariants.{Current, First, Second}

-- the copy of this number, if there is one
abbrev pub copy_named : Text → Option WantedCopy
copy_named word =
    if bytes_eq word (codes "1") then Some First
    else if bytes_eq word (codes "2") then Some Second
    else None

-- what is wrong with another number
abbrev pub bad_copy : Text
bad_copy = codes "' for '--copy <N>'\n  [possible values: 1, 2]\n\nFor more information, try '--help'.\n"

-- the copy that is named, or the current one
abbrev pub wanted_by : Option Text → Result WantedCopy Text
wanted_by None = Ok Current
wanted_by (Some word) = value_or bad_copy word (copy_named word)

abbrev pub wanted_copy_of : List Row → Result WantedCopy Text
wanted_copy_of rows = wanted_by (first_of (codes "copy") rows)
