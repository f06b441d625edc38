-- What clap's rules found in the command line, for one argument.
use Rattle.std.specs.Prelude.{Bool, true, false, List, [], ◌++◌, Option, Some, None, Result, Ok, Err, codes, unwrap_or}
use Rattle.clap.specs.Words.{Row, Text, all_of, first_of}
use Rattle.clap.specs.declared.parser.matches.ValueSource.{ValueSource}
use Rattle.clap.specs.declared.parser.matches.ValueSource.TheVariants.{CommandLine}
use Rattle.fw_arguments.specs.Words.{source_in}

-- a flag on the command line
abbrev pub given_by : Option ValueSource → Bool
given_by (Some CommandLine) = true
given_by source = false

abbrev pub is_given : Text → List Row → Bool
is_given id rows = given_by (source_in id rows)

-- the values of an argument, no value if it isn't there
abbrev pub all_values : Text → List Row → List Text
all_values id rows = unwrap_or (all_of id rows) []

abbrev pub first_or : Text → Text → List Row → Text
first_or other id rows = unwrap_or (first_of id rows) other

-- what a word is read as, or the text for what is wrong with it
abbrev pub value_or : {A : Type 0} → (why word : Text) → Option A → Result A Text
value_or why word (Some a) = Ok a
value_or why word None = Err (codes "error: invalid value '" ++ word ++ why)
