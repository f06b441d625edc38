-- Worked examples of docs/runs.md, which the checker computes from the definitions.
use Rattle.std.proofs.Common.{◌≡◌, ℕ, true, false, List, [], ◌∷◌, ◌++◌, None, Some, Ok, Err, refl}
use Rattle.std.specs.Prelude.{codes, map}
use Rattle.hush_commands.specs.declared.stand_in_line.StubFault.TheVariants.{Line, Builtin}
use Rattle.hush_commands.specs.Builtins.{builtin_of}
use Rattle.hush_commands.specs.Statuses.{status_of}
use Rattle.std.specs.Fmt.{digits}
use Rattle.text_parts.specs.Lines.{numbered_lines}
use Rattle.std.specs.FinMap.{empty}
use Rattle.hush_words.specs.Words.Atom.{Plain, Quoted, Status, Mark as MarkAtom}
use Rattle.hush_commands.specs.Expansion.{Known, Byte, Split, Mark, substituted, bytes_of, fields, size, expanded, expanded_value}
use Rattle.hush_commands.specs.StandInLines.{StandIn, StandInLine, read_line, words_of}

statuses : map status_of (codes "0" ∷ codes "255" ∷ codes "000255" ∷ codes "256" ∷ codes "1x" ∷ codes "-1" ∷ [] ∷ [])
    ≡ Some 0 ∷ Some 255 ∷ Some 255 ∷ None ∷ None ∷ None ∷ None ∷ []
statuses = refl

words : words_of (codes "  mmc\t 7 ") ≡ codes "mmc" ∷ codes "7" ∷ []
words = refl

no_words : words_of (codes " \t ") ≡ []
no_words = refl

lines : numbered_lines (codes "a\n\nb\n") ≡ (1, codes "a") ∷ (2, []) ∷ (3, codes "b") ∷ (4, []) ∷ []
lines = refl

-- what a stand-in line holds
stand_in : List ℕ → ℕ → StandInLine
stand_in name status = let s : StandIn = (name, status) in Ok (Some s)

stand_ins : map (read_line 3) (codes "mmc" ∷ codes " usb  007 " ∷ codes " # 3" ∷ codes "echo.b" ∷ [])
    ≡ stand_in (codes "mmc") 0 ∷ stand_in (codes "usb") 7 ∷ stand_in (codes "#") 3 ∷ stand_in (codes "echo.b") 0 ∷ []
unfolding stand_in builtin_of
stand_ins = refl

nothing : map (read_line 3) ([] ∷ codes " \t" ∷ codes "#mmc 300" ∷ []) ≡ Ok None ∷ Ok None ∷ Ok None ∷ []
nothing = refl

other_forms : map (read_line 3) (codes "x 256" ∷ codes "x 1 2" ∷ codes "x y" ∷ codes "echo 256" ∷ (codes "#" ++ 0 ∷ []) ∷ [])
    ≡ Err (Line 3) ∷ Err (Line 3) ∷ Err (Line 3) ∷ Err (Line 3) ∷ Err (Line 3) ∷ []
other_forms = refl

names_of_builtins : map (read_line 3) (codes "echo 0" ∷ codes "exit" ∷ codes "setexpr.q 1" ∷ codes "env" ∷ codes "true" ∷ [])
    ≡ Err (Builtin 3) ∷ Err (Builtin 3) ∷ Err (Builtin 3) ∷ Err (Builtin 3) ∷ Err (Builtin 3) ∷ []
unfolding builtin_of
names_of_builtins = refl

-- a${x}b where x is `1 2`, and the same in quotes
fields_of_a_word : fields (Byte 97 ∷ substituted false (codes "1 2") ++ Byte 98 ∷ []) ≡ codes "a1" ∷ codes "2b" ∷ []
unfolding fields
fields_of_a_word = refl

field_in_quotes : fields (Mark ∷ substituted true (codes "1 2")) ≡ codes "1 2" ∷ []
unfolding fields
field_in_quotes = refl

blanks_alone : fields (substituted false (codes " \t")) ≡ []
unfolding fields
blanks_alone = refl

quotes_alone : fields (Mark ∷ []) ≡ [] ∷ []
unfolding fields
quotes_alone = refl

quotes_behind_a_blank : fields (substituted false (codes " a ") ++ Mark ∷ []) ≡ codes "a" ∷ [] ∷ []
unfolding fields
quotes_behind_a_blank = refl

blank_as_a_byte : bytes_of (Mark ∷ substituted false (codes " a\t")) ≡ codes " a\t"
blank_as_a_byte = refl

marks_have_no_size : size (Mark ∷ Byte 97 ∷ Split 32 ∷ Mark ∷ []) ≡ 2
marks_have_no_size = refl

-- words with a status of 7 and nothing else known
nothing_known : Known
nothing_known = record { env = empty; locals = empty; status = 7 }

status_and_text : expanded nothing_known 2 ((Plain 97 ∷ Status false ∷ []) ∷ (Quoted 32 ∷ []) ∷ []) ≡ Some (codes "a7" ∷ codes " " ∷ [])
unfolding fields nothing_known digits
status_and_text = refl

one_too_large : expanded nothing_known 1 ((Quoted 32 ∷ []) ∷ (Plain 97 ∷ Status false ∷ []) ∷ []) ≡ None
unfolding nothing_known digits
one_too_large = refl

value_alone : expanded_value nothing_known 1 (MarkAtom ∷ Status true ∷ []) ≡ Some (codes "7")
unfolding nothing_known digits
value_alone = refl
