-- Worked examples of docs/runs.md, "Board files", which the checker computes from the definitions.
use Rattle.std.proofs.Common.{◌≡◌, ℕ, true, false, List, [], ◌∷◌, ◌++◌, None, Some, refl}
use Rattle.std.specs.Prelude.{codes, map, replicate, Ok, Err}
use Rattle.hush_words.specs.Words.{is_blank, ends_word, begins_name, is_in_name, follows_dollar, is_special, is_bare, is_inner, is_escaped}
use Rattle.hush_words.specs.Reading.{dollar_at, inner_escape, inner_at, double_at, piece_at, passed_at, lexeme_at, tokens_of}
use Rattle.hush_words.specs.Forms.{is_plain, name_of, assignment_of}
use Rattle.hush_syntax.specs.Keywords.{keyword_of}
use Rattle.hush_syntax.specs.Reading.{command, read_in}
use Rattle.hush_commands.specs.declared.pattern.PatternWord.{PatternWord}
use Rattle.hush_commands.specs.declared.board_rules.Rule.{Rule}
use Rattle.hush_commands.specs.declared.board_rules.Reply.{Reply}
use Rattle.hush_commands.specs.declared.board_rules.Reply.TheVariants.{Status, Text, Lacks}
use Rattle.hush_commands.specs.declared.departure.Leaving.TheVariants.{Boots, Resets, Asks}
use Rattle.hush_commands.specs.Builtins.{builtin_of}
use Rattle.board_file.specs.declared.board_fault.LineFault.{LineFault}
use Rattle.board_file.specs.declared.board_fault.LineFault.TheVariants.{Nul, Long, Form, NoPattern, Words, Minus, Builtin, NoAnswer, Open, NoScript, NoStatus, Unreachable}
use Rattle.board_file.specs.Patterns.{pattern_fault}
use Rattle.board_file.specs.BoardLines.{LineOrFault, cut_at_arrow, read_line}
use Rattle.board_file.specs.BoardFiles.{RulesOrFault, board_of}

exactly : List ℕ → PatternWord
exactly text = record { text = text; begins = false }

opened : List ℕ → PatternWord
opened text = record { text = text; begins = true }

rule : List PatternWord → Reply → Rule
rule pattern reply = record { pattern = pattern; whole = false; reply = reply }

holds : List PatternWord → Reply → LineOrFault
holds pattern reply = Ok (Some (rule pattern reply))

-- a line cut at its first word `->`
cuts : map cut_at_arrow (codes "a -> b" ∷ codes "->" ∷ codes "a-> -> ->" ∷ codes "a ->b" ∷ codes "a\t->\tb" ∷ [])
    ≡ Some (codes "a ", codes " b") ∷ Some ([], []) ∷ Some (codes "a-> ", codes " ->") ∷ None ∷ Some (codes "a\t", codes "\tb") ∷ []
cuts = refl

status_line : read_line (codes "mmc dev 0   -> 1") ≡ holds (map exactly (codes "mmc" ∷ codes "dev" ∷ codes "0" ∷ [])) (Status 1 None)
unfolding holds rule exactly builtin_of
status_line = refl

text_line : read_line (codes "load mm* -> setenv filesize 1c4a00 ") ≡ holds (exactly (codes "load") ∷ opened (codes "mm") ∷ []) (Text (codes "setenv filesize 1c4a00"))
unfolding holds rule exactly opened builtin_of read_in tokens_of lexeme_at passed_at piece_at inner_at double_at inner_escape is_inner is_escaped is_bare ends_word is_special is_blank command keyword_of is_plain name_of assignment_of begins_name is_in_name dollar_at follows_dollar
text_line = refl

-- a board's bodies may be empty
empty_body : read_line (codes "x -> if true; then else false; fi") ≡ holds (exactly (codes "x") ∷ []) (Text (codes "if true; then else false; fi"))
unfolding holds rule exactly opened builtin_of read_in tokens_of lexeme_at passed_at piece_at inner_at double_at inner_escape is_inner is_escaped is_bare ends_word is_special is_blank command keyword_of is_plain name_of assignment_of begins_name is_in_name dollar_at follows_dollar
empty_body = refl

boot_line : read_line (codes "booti -> boots") ≡ holds (exactly (codes "booti") ∷ []) (Status 0 (Some Boots))
unfolding holds rule exactly builtin_of
boot_line = refl

reset_line : read_line (codes "reset -> resets") ≡ holds (exactly (codes "reset") ∷ []) (Status 0 (Some Resets))
unfolding holds rule exactly builtin_of
reset_line = refl

-- a builtin that the board lacks
lacking_line : read_line (codes "-setexpr") ≡ holds (exactly (codes "setexpr") ∷ []) Lacks
unfolding holds rule exactly builtin_of
lacking_line = refl

names : map read_line (codes "dhcp" ∷ codes " dhcp 007 " ∷ codes "d* 1" ∷ codes "[" ∷ codes "echo.b" ∷ [])
    ≡ holds (exactly (codes "dhcp") ∷ []) (Status 0 None)
    ∷ holds (exactly (codes "dhcp") ∷ []) (Status 7 None)
    ∷ holds (opened (codes "d") ∷ []) (Status 1 None)
    ∷ holds (exactly (codes "[") ∷ []) (Status 0 None)
    ∷ holds (exactly (codes "echo.b") ∷ []) (Status 0 None)
    ∷ []
unfolding holds rule exactly opened builtin_of
names = refl

nothing : map read_line ([] ∷ codes " \t" ∷ codes "# dhcp -> ?" ∷ []) ≡ Ok None ∷ Ok None ∷ Ok None ∷ []
nothing = refl

at_fault : map read_line ((codes "#" ++ 0 ∷ []) ∷ replicate 4097 35 ∷ codes "dhcp 256" ∷ codes "dhcp 1 2" ∷ codes "echo x" ∷ codes " -> 0" ∷ codes "-setexpr 1" ∷ codes "-setexpr.b" ∷ codes "-ls" ∷ codes "-x -> " ∷ [])
    ≡ Err Nul ∷ Err Long ∷ Err Form ∷ Err Form ∷ Err Form ∷ Err NoPattern ∷ Err Minus ∷ Err Minus ∷ Err Minus ∷ Err Minus ∷ []
unfolding builtin_of
at_fault = refl

-- patterns of 256 words and of one more
long_patterns : map pattern_fault (replicate 256 (exactly (codes "a")) ∷ replicate 257 (exactly (codes "a")) ∷ []) ≡ None ∷ Some Words ∷ []
unfolding exactly builtin_of
long_patterns = refl

answer_at_fault : read_line (codes "dhcp ->") ≡ Err NoAnswer
unfolding builtin_of
answer_at_fault = refl

-- open answers
open_answers : map read_line (codes "dhcp -> ?" ∷ codes "test -e mmc -> ?" ∷ [])
    ≡ holds (exactly (codes "dhcp") ∷ []) (Status 0 (Some Asks)) ∷ holds (map exactly (codes "test" ∷ codes "-e" ∷ codes "mmc" ∷ [])) (Status 0 (Some Asks)) ∷ []
unfolding holds rule exactly builtin_of
open_answers = refl

no_script : read_line (codes "dhcp -> if") ≡ Err NoScript
unfolding builtin_of read_in tokens_of lexeme_at passed_at piece_at inner_at double_at inner_escape is_inner is_escaped is_bare ends_word is_special is_blank command keyword_of is_plain name_of assignment_of begins_name is_in_name dollar_at follows_dollar
no_script = refl

-- a builtin's names, also those with a width; what a board takes as one of them; and `test` without `-e`
builtins : map read_line (codes "echo" ∷ codes "env set x -> 0" ∷ codes "env.* -> 0" ∷ codes "setexp.* -> 0" ∷ codes "printe.* -> 0" ∷ codes "test -> 0" ∷ codes "test -* -> 0" ∷ [])
    ≡ Err Builtin ∷ Err Builtin ∷ Err Builtin ∷ Err Builtin ∷ Err Builtin ∷ Err Builtin ∷ Err Builtin ∷ []
unfolding builtin_of
builtins = refl

-- these aren't, since a name is left over that is none
no_builtins : map read_line (codes "ech* 1" ∷ codes "set.* 1" ∷ codes "cp.* 1" ∷ [])
    ≡ holds (opened (codes "ech") ∷ []) (Status 1 None) ∷ holds (opened (codes "set.") ∷ []) (Status 1 None) ∷ holds (opened (codes "cp.") ∷ []) (Status 1 None) ∷ []
unfolding holds rule opened builtin_of
no_builtins = refl

-- forms of builtins that are asked
asked : map read_line (codes "env 1" ∷ codes "env import -> 1" ∷ codes "env s* -> 1" ∷ codes "setexpr.l -> 1" ∷ codes "setexpr.* -> 1" ∷ [])
    ≡ holds (exactly (codes "env") ∷ []) (Status 1 None)
    ∷ holds (exactly (codes "env") ∷ exactly (codes "import") ∷ []) (Status 1 None)
    ∷ holds (exactly (codes "env") ∷ opened (codes "s") ∷ []) (Status 1 None)
    ∷ holds (exactly (codes "setexpr.l") ∷ []) (Status 1 None)
    ∷ holds (opened (codes "setexpr.") ∷ []) (Status 1 None)
    ∷ []
unfolding holds rule exactly opened builtin_of
asked = refl

-- whether a file is there has a status
file_line : read_line (codes "test -e mmc 1:2 /boot/* -> 0") ≡ holds (map exactly (codes "test" ∷ codes "-e" ∷ codes "mmc" ∷ codes "1:2" ∷ []) ++ opened (codes "/boot/") ∷ []) (Status 0 None)
unfolding holds rule exactly opened builtin_of
file_line = refl

file_boots : read_line (codes "test -e -> boots") ≡ Err NoStatus
unfolding builtin_of
file_boots = refl

file_text : read_line (codes "test -e -> true") ≡ Err NoStatus
unfolding builtin_of read_in tokens_of lexeme_at passed_at piece_at inner_at double_at inner_escape is_inner is_escaped is_bare ends_word is_special is_blank command keyword_of is_plain name_of assignment_of begins_name is_in_name dollar_at follows_dollar
file_text = refl

-- a whole file; a carriage return at the end of a line is dropped
file : board_of false (codes "# a card\r\nmmc dev 0 -> 1\r\nmmc\n\nbooti -> boots") ≡ Ok (rule (map exactly (codes "mmc" ∷ codes "dev" ∷ codes "0" ∷ [])) (Status 1 None) ∷ rule (exactly (codes "mmc") ∷ []) (Status 0 None) ∷ rule (exactly (codes "booti") ∷ []) (Status 0 (Some Boots)) ∷ [])
unfolding rule exactly builtin_of
file = refl

-- the first line that is at fault
refusal : ℕ → LineFault → RulesOrFault
refusal line kind = Err (record { line = line; kind = kind })

first_fault : board_of false (codes "mmc\n-x\nmmc ->") ≡ refusal 2 Minus
unfolding refusal builtin_of
first_fault = refl

-- an open answer, if the board may not be asked and if it may
not_asked : board_of false (codes "mmc -> ?") ≡ refusal 1 Open
unfolding refusal builtin_of
not_asked = refl

is_asked : board_of true (codes "mmc -> ?") ≡ Ok (rule (exactly (codes "mmc") ∷ []) (Status 0 (Some Asks)) ∷ [])
unfolding rule exactly builtin_of
is_asked = refl

-- lines that no call can reach
unreachable : map (board_of false) (codes "x\nx 1" ∷ codes "mmc\nmmc dev 0 -> 1" ∷ codes "load mm* -> 1\nload mmc -> 0" ∷ codes "l* 1\nload* x 1" ∷ codes "*\ntest -e -> 0" ∷ [])
    ≡ refusal 2 Unreachable ∷ refusal 2 Unreachable ∷ refusal 2 Unreachable ∷ refusal 2 Form ∷ refusal 2 Unreachable ∷ []
unfolding refusal builtin_of
unreachable = refl

-- and lines that one can
reachable : board_of false (codes "load mmc -> 1\nload mm* -> 0") ≡ Ok (rule (exactly (codes "load") ∷ exactly (codes "mmc") ∷ []) (Status 1 None) ∷ rule (exactly (codes "load") ∷ opened (codes "mm") ∷ []) (Status 0 None) ∷ [])
unfolding rule exactly opened builtin_of
reachable = refl
