-- Entries of a boot menu (docs/check.md, "Which scripts").
use Rattle.std.specs.Prelude.{ℕ, ◌==◌, ◌&&◌, Bool, not, List, [], ◌∷◌, drop, length, take, codes, if◌then◌else◌}
use Rattle.std.specs.Char.{is_ascii_digit}
use Rattle.std.specs.List.{list_all}
use Rattle.std.specs.Str.{bytes_eq}

abbrev pub menu_front : List ℕ
menu_front = codes "bootmenu_"

-- one digit or more
abbrev pub is_number : List ℕ → Bool
is_number text = not (length text == 0) && list_all is_ascii_digit text

-- `bootmenu_` and a number
abbrev pub is_entry_name : List ℕ → Bool
is_entry_name name = bytes_eq menu_front (take (length menu_front) name) && is_number (drop (length menu_front) name)

-- a newline stays one
abbrev pub blank : ℕ → ℕ
blank b = if b == 10 then 10 else 32

-- blanks in the place of all that comes before the script of an entry: its title and the first `=`; each byte of the
-- script stays at its place, and an entry without a `=` is blanks alone
abbrev pub blanked : List ℕ → List ℕ
blanked [] = []
blanked (b ∷ bs) = if b == 61 then 32 ∷ bs else blank b ∷ blanked bs

-- the script of a variable of this name and value
abbrev pub script_of : (name value : List ℕ) → List ℕ
script_of name value = if is_entry_name name then blanked value else value
