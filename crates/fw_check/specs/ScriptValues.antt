-- Values that look like scripts (docs/check.md, "Which scripts").
use Rattle.std.specs.Prelude.{ℕ, ◌==◌, ◌&&◌, ◌||◌, Bool, not, List, [], ◌∷◌, codes, drop, length, nat_eq, take, Option, Some, None, is_some, unwrap_or, if◌then◌else◌}
use Rattle.std.specs.FinMap.{get}
use Rattle.std.specs.List.{prefix_len, starts_with}
use Rattle.envimg_core.specs.Environment.{Environment}
use Rattle.hush_commands.specs.Builtins.{builtin_of}
use Rattle.hush_commands.specs.CommandNames.{names_command}
use Rattle.hush_commands.specs.Hardware.{Hardware}
use Rattle.hush_commands.specs.declared.shell.Shell.TheVariants.{Strict}
use Rattle.fw_check.specs.Literals.{is_word_of}
use Rattle.fw_check.specs.Menus.{is_entry_name}

-- blanks and newlines, which may be between words
abbrev pub is_gap : ℕ → Bool
is_gap b = b == 32 || b == 9 || b == 10

abbrev pub without_gap : List ℕ → List ℕ
without_gap [] = []
without_gap (b ∷ bs) = if is_gap b then without_gap bs else b ∷ bs

-- these, `;`, `&` and `|` end a word
abbrev pub is_in_word : ℕ → Bool
is_in_word b = not (is_gap b || b == 59 || b == 38 || b == 124)

abbrev pub first_word : List ℕ → List ℕ
first_word text = take (prefix_len is_in_word text) text

abbrev pub behind_first : List ℕ → List ℕ
behind_first text = drop (prefix_len is_in_word text) text

-- what begins a script and is no command
abbrev pub forms : List (List ℕ)
forms = codes "if" ∷ codes "for" ∷ codes "while" ∷ codes "until" ∷ []

-- a command is there by its name as it is written: a list of files, as `boot.scr boot.scr.uimg`, begins with none
abbrev pub is_there : Option Hardware → List ℕ → Bool
is_there None name = is_some (builtin_of name)
is_there (Some h) name = names_command Strict h name

-- more follows a first word with which a script may begin; `text` has no gap at its front
abbrev pub begins_script : Option Hardware → List ℕ → Bool
begins_script h text = (is_word_of forms (first_word text) || is_there h (first_word text)) && not (length (without_gap (behind_first text)) == 0)

-- U-Boot reads these variables as lists, in which `;` is between entries
abbrev pub is_list_name : List ℕ → Bool
is_list_name name = starts_with nat_eq name (codes "dfu_alt_info")

-- the value of a variable looks like a script; an entry of a boot menu has its script by itself
abbrev pub looks_like_script : Option Hardware → Environment → List ℕ → Bool
looks_like_script h env name = not (is_entry_name name) && (not (is_list_name name) && begins_script h (without_gap (unwrap_or (get env name) [])))
