-- How inputs are cut into blocks and dot lines, and what dot lines ask for: rows that the checker computes
-- (docs/dry-runs.md).
use Rattle.std.specs.Prelude.{◌≡◌, ℕ, ◌++◌, List, [], ◌∷◌, Some, None, codes, replicate, refl}
use Rattle.fw_session.specs.Input.{Block, Dot, items_of, to_last_dot}
use Rattle.env_requests.specs.Requests.{Save, Print, Mark, Undo}
use Rattle.fw_session.specs.Asked.{Asks, Seeks, unknown, asked_by_line}

abbrev input : List ℕ
input = codes "setenv a 1\necho $a\n\n.save\n.print \r\necho \"\n.x\n\"\n.undo"

pub cut : items_of input ≡
    Block (codes "setenv a 1\necho $a\n\n") ∷ Dot (codes ".save\n") ∷ Dot (codes ".print \r\n") ∷ Block (codes "echo \"\n")
    ∷ Dot (codes ".x\n") ∷ Block (codes "\"\n") ∷ Dot (codes ".undo") ∷ []
unfolding items_of
cut = refl

-- the last line is no whole dot line, nor is the block before it followed by one
pub cut_short : to_last_dot (items_of input) ≡
    Block (codes "setenv a 1\necho $a\n\n") ∷ Dot (codes ".save\n") ∷ Dot (codes ".print \r\n") ∷ Block (codes "echo \"\n")
    ∷ Dot (codes ".x\n") ∷ []
unfolding items_of to_last_dot
cut_short = refl

pub nothing : items_of [] ≡ []
unfolding items_of
nothing = refl

pub one_newline : items_of (codes "\n") ≡ Block (codes "\n") ∷ []
unfolding items_of
one_newline = refl

pub a_blank_before : items_of (codes " .save\n") ≡ Block (codes " .save\n") ∷ []
unfolding items_of
a_blank_before = refl

pub blanks_after : asked_by_line (codes ".undo \t\r\n") ≡ Asks Undo None
unfolding asked_by_line
blanks_after = refl

pub saved : asked_by_line (codes ".save\r\n") ≡ Asks Save None
unfolding asked_by_line
saved = refl

pub printed : asked_by_line (codes ".print") ≡ Asks Print None
unfolding asked_by_line
printed = refl

pub a_mark : asked_by_line (codes ".mark \t p\r\n") ≡ Asks Mark (Some (codes "p"))
unfolding asked_by_line
a_mark = refl

pub a_name_of_32_bytes : asked_by_line (codes ".undo " ++ replicate 32 120) ≡ Seeks (replicate 32 120)
unfolding asked_by_line
a_name_of_32_bytes = refl

pub a_name_of_33_bytes : asked_by_line (codes ".mark " ++ replicate 33 120) ≡ unknown
unfolding asked_by_line
a_name_of_33_bytes = refl

pub no_name : asked_by_line (codes ".mark\n") ≡ unknown
unfolding asked_by_line
no_name = refl

pub two_names : asked_by_line (codes ".undo p q\n") ≡ unknown
unfolding asked_by_line
two_names = refl

pub no_blank : asked_by_line (codes ".markp\n") ≡ unknown
unfolding asked_by_line
no_blank = refl
