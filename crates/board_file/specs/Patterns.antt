-- The patterns of a board file (docs/runs.md, "Board files").
use Rattle.std.specs.Prelude.{ℕ, ◌==◌, nat_lt, ◌-◌, ◌&&◌, ◌||◌, not, Bool, true, false, if◌then◌else◌, List, [], ◌∷◌, codes, length, take, filter, map, is_some, Option, Some, None, slice_index}
use Rattle.std.specs.List.{list_any}
use Rattle.std.specs.Str.{bytes_eq}
use Rattle.text_parts.specs.Bytes.{begins_with}
use Rattle.text_parts.specs.Numerals.{minus}
use Rattle.hush_commands.specs.declared.pattern.PatternWord.{PatternWord}
use Rattle.hush_commands.specs.Builtins.{builtin_of, builtins, name_of}
use Rattle.hush_commands.specs.CommandNames.{is_dot, without_width}
use Rattle.hush_commands.specs.CommandNames.{begins_with as is_beginning}
use Rattle.board_file.specs.declared.board_fault.LineFault.{LineFault}
use Rattle.board_file.specs.declared.board_fault.LineFault.TheVariants.{NoPattern, Words, Minus, Builtin}

abbrev pub star : ℕ
star = 42

abbrev pub ends_in_star : List ℕ → Bool
ends_in_star word = slice_index word (length word - 1) == star

-- a word that ends in `*` fits each that begins with what is before it
abbrev pub pattern_word : List ℕ → PatternWord
pattern_word word =
    if ends_in_star word then record { text = take (length word - 1) word; begins = true }
    else record { text = word; begins = false }

abbrev pub pattern_words : List (List ℕ) → List PatternWord
pattern_words words = map pattern_word words

-- whether a word of a pattern fits this text alone
abbrev pub is_just : List ℕ → PatternWord → Bool
is_just text w = not w.begins && bytes_eq text w.text

-- whether a pattern is one of `test -e`, which a board's `test` asks
abbrev pub asks_file : List PatternWord → Bool
asks_file [] = false
asks_file (w ∷ []) = false
asks_file (w ∷ v ∷ ws) = is_just (codes "test") w && is_just (codes "-e") v

-- whether the words after `env` begin with the name of a command of `env` that a run has itself
abbrev pub is_subcommand : PatternWord → Bool
is_subcommand w =
    is_just (codes "set") w
    || is_just (codes "print") w
    || is_just (codes "save") w
    || is_just (codes "run") w
    || is_just (codes "delete") w
    || is_just (codes "exists") w

abbrev pub names_subcommand : List PatternWord → Bool
names_subcommand [] = false
names_subcommand (w ∷ ws) = is_subcommand w

-- whether a pattern is one of other commands of `env`, which are asked
abbrev pub asks_env : List PatternWord → Bool
asks_env [] = false
asks_env (w ∷ ws) = is_just (codes "env") w && not (names_subcommand ws)

-- or one of `setexpr`, perhaps with a width: what is no calculation is asked
abbrev pub asks_setexpr : List PatternWord → Bool
asks_setexpr [] = false
asks_setexpr (w ∷ ws) = bytes_eq (codes "setexpr") w.text || is_beginning (codes "setexpr.") w.text

-- whether a builtin asks calls that a pattern fits
abbrev pub is_asked : List PatternWord → Bool
is_asked pattern = asks_file pattern || (asks_env pattern || asks_setexpr pattern)

-- whether exactly one builtin's name begins so: on a board that is the one which is meant
abbrev pub names_builtin : List ℕ → Bool
names_builtin front = length (filter (is_beginning front) (map name_of builtins)) == 1

-- whether all names that begin with a text are those of one builtin with a width: what is behind their first dot is one
abbrev pub only_widths : List ℕ → Bool
only_widths text = list_any is_dot text && names_builtin (without_width text)

-- whether a builtin has the commands whose name this word fits; with a `*` some name is left over, unless all have a width
abbrev pub is_answered : PatternWord → Bool
is_answered w = if w.begins then only_widths w.text else is_some (builtin_of w.text)

-- how many words a pattern may have
abbrev pub most_words : ℕ
most_words = 256

-- what is wrong with the first word of a pattern
abbrev pub first_fault : PatternWord → (pattern : List PatternWord) → Option LineFault
first_fault w pattern =
    if begins_with minus w.text then Some Minus
    else if is_answered w && not (is_asked pattern) then Some Builtin
    else None

-- what is wrong with a pattern
abbrev pub pattern_fault : List PatternWord → Option LineFault
pattern_fault [] = Some NoPattern
pattern_fault (w ∷ ws) = if nat_lt most_words (length (w ∷ ws)) then Some Words else first_fault w (w ∷ ws)
