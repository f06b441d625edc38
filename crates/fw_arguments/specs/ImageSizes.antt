-- The image's size if the environment is only a text (docs/dry-runs.md, "An environment without a board").
use Rattle.std.specs.Prelude.{ℕ, ◌||◌, ◌&&◌, not, Bool, List, [], ◌∷◌, ◌++◌, Option, Some, None, Result, Ok, Err, codes, if◌then◌else◌, option_and_then}
use Rattle.std.specs.Str.{bytes_eq}
use Rattle.clap.specs.Words.{Row, Text}
use Rattle.envcfg_core.specs.Numerals.{size_of}
use Rattle.envcfg_core.specs.Sizes.{copy_size}
use Rattle.fw_arguments.specs.GivenTexts.{GivenText, given_text, gives_two, two_texts}
use Rattle.fw_arguments.specs.Values.{first_or, is_given}
use Rattle.fw_arguments.specs.Words.{usual_size}

-- the subcommands whose environment may be only a text
abbrev pub takes_text : Text → Bool
takes_text name =
    bytes_eq name (codes "session") || (bytes_eq name (codes "run") || (bytes_eq name (codes "boot") || bytes_eq name (codes "check")))

abbrev pub whole_text : Text → List Row → Option GivenText
whole_text name rows = if takes_text name then given_text rows else None

-- what is wrong if such a text is given with another option, or `--size` without one
abbrev pub help_ends : Text
help_ends = 10 ∷ 10 ∷ codes "For more information, try '--help'." ++ 10 ∷ []

abbrev pub and_env : Text → Text
and_env other = codes "error: the argument '" ++ other ++ codes "' cannot be used with '--env <FILE>', '--env-source <FILE>' or '--env-plain <FILE>'" ++ help_ends

abbrev pub size_alone : Text
size_alone = codes "error: the argument '--size <N>' is only for '--env <FILE>', '--env-source <FILE>' or '--env-plain <FILE>'" ++ help_ends

-- what is wrong if copies are to be written over, and not to be written
abbrev pub overwrite_alone : Text
overwrite_alone = codes "error: the argument '--overwrite' is only for '--write'" ++ help_ends

abbrev pub overwrites_alone : List Row → Bool
overwrites_alone rows = is_given (codes "overwrite") rows && not (is_given (codes "write") rows)

-- a size that an image may have, in the form that a configuration has
abbrev pub size_in : Text → Option ℕ
size_in word = option_and_then copy_size (size_of word)

abbrev pub sized_or : Text → Option ℕ → Result (Option ℕ) Text
sized_or word (Some size) = Ok (Some size)
sized_or word None =
    Err (codes "error: invalid value '" ++ word ++ codes "' for '--size <N>': not the size of an image in hexadecimal, 0x8 to 0x100000" ++ help_ends)

abbrev pub sized : Text → Result (Option ℕ) Text
sized word = sized_or word (size_in word)

abbrev pub in_memory : List Row → Result (Option ℕ) Text
in_memory rows =
    if gives_two rows then Err two_texts
    else if is_given (codes "config") rows then Err (and_env (codes "-c <FILE>"))
    else if is_given (codes "default") rows then Err (and_env (codes "--default <FILE>"))
    else if is_given (codes "need-copy") rows then Err (and_env (codes "--need-copy"))
    else if is_given (codes "copy") rows then Err (and_env (codes "--copy <N>"))
    else if is_given (codes "write") rows then Err (and_env (codes "--write"))
    else if overwrites_alone rows then Err overwrite_alone
    else sized (first_or usual_size (codes "size") rows)

abbrev pub in_devices : Text → List Row → Result (Option ℕ) Text
in_devices name rows =
    if takes_text name && is_given (codes "size") rows then Err size_alone
    else if takes_text name && overwrites_alone rows then Err overwrite_alone
    else Ok None

-- `None` if the copies are those of a configuration
abbrev pub image_by : Option GivenText → Text → List Row → Result (Option ℕ) Text
image_by None name rows = in_devices name rows
image_by (Some text) name rows = in_memory rows

abbrev pub image_of : Text → List Row → Result (Option ℕ) Text
image_of name rows = image_by (whole_text name rows) name rows
