-- Small scripts, read and checked by the definitions alone.
use Rattle.std.proofs.Common.{◌≡◌, ℕ, ◌||◌, true, false, not, List, [], ◌∷◌, ◌++◌, map, codes, refl, ap, Option, Some, None, if◌then◌else◌}
use Rattle.std.specs.Prelude.{is_some}
use Rattle.std.specs.List.{flat_map}
use Rattle.std.specs.FinMap.{empty, entries, get, get-empty}
use Rattle.envimg_core.specs.Environment.{bytes_cmp}
use Rattle.hush_words.specs.Words.{Atom}
use Rattle.hush_words.specs.Words.Atom.{Plain, Quoted, Mark, Value, Status}
use Rattle.hush_syntax.specs.Grammar.{Command, Simple, Assign, For, If, While, Fi, Chains, First, Link, End, Last, More}
use Rattle.hush_syntax.specs.declared.nodes.Operator.TheVariants.{And, Or}
use Rattle.hush_commands.specs.Builtins.{builtin_of}
use Rattle.hush_commands.specs.declared.shell.Shell.TheVariants.{Strict, Board}
use Rattle.hush_commands.specs.CommandNames.{with_name}
use Rattle.hush_commands.specs.Hardware.{hardware}
use Rattle.hush_commands.specs.Stubs.{Statuses}
use Rattle.finding_kinds.specs.declared.kinds.FindingKind.TheVariants as kind
use Rattle.fw_check.specs.Called.{Given, called_by, given_with}
use Rattle.fw_check.specs.Following.{is_among, names_with}
use Rattle.fw_check.specs.Foreign.{foreign_of, plain_of}
use Rattle.fw_check.specs.declared.foreign.Foreign.TheVariants as foreign
use Rattle.fw_check.specs.ReportLines.{Finding, found_at}
use Rattle.fw_check.specs.CommandFindings.{called_findings, target_findings, undefined_sentence}
use Rattle.fw_check.specs.Findings.{lacking_sentence, name_findings, names_findings}
use Rattle.fw_check.specs.Knowing.{Known, set_by_commands}
use Rattle.fw_check.specs.Literals.{Front, front_of, is_word_of, literal_of, substituted}
use Rattle.fw_check.specs.Misuse.{has_odd, is_calculated_wrong, is_set_wrong}
use Rattle.fw_check.specs.Operators.{ATerm, after_word, is_broken}
use Rattle.fw_check.specs.Naming.{asked_fronts, foreseen_as, foreseen_names, given_names, run_fronts}
use Rattle.fw_check.specs.Settings.{shows_status}
use Rattle.fw_check.specs.Statements.{Statement, Assigns, Binds, Calls, of_script}
use Rattle.fw_check.specs.declared.settings.Setting.{Setting}

abbrev word : List ℕ → List Atom
word text = map Plain text

abbrev value : List ℕ → List Atom
value name = Mark ∷ Value name true ∷ Mark ∷ []

abbrev strict : Given
strict = given_with Strict None []

abbrev more : Command → Chains → Chains
more c cs = More (First c End) cs

abbrev alone : Command → Chains
alone c = Last (First c End)

-- `for i in 1; do test -n "$a"; part uuid mmc "y"; done; x="$b"; $e "$f"; run c "$d"`
abbrev body : Chains
body =
    more (Simple (word (codes "test") ∷ word (codes "-n") ∷ value (codes "a") ∷ []))
    (alone (Simple (word (codes "part") ∷ word (codes "uuid") ∷ word (codes "mmc") ∷ (Mark ∷ Quoted 121 ∷ Mark ∷ []) ∷ [])))

abbrev script : Chains
script =
    more (For (codes "i") (word (codes "1") ∷ []) body)
    (more (Assign (codes "x") (value (codes "b")))
    (more (Simple (value (codes "e") ∷ value (codes "f") ∷ []))
    (alone (Simple (word (codes "run") ∷ word (codes "c") ∷ value (codes "d") ∷ [])))))

given_row : flat_map (given_names strict) (of_script false false (Some script))
    ≡ codes "i" ∷ codes "-n" ∷ codes "a" ∷ codes "uuid" ∷ codes "mmc" ∷ codes "y" ∷ codes "x" ∷ codes "c" ∷ []
given_row = refl

abbrev whole : List ℕ → Front
whole text = record { bytes = text; whole = true }

abbrev begun : List ℕ → Front
begun text = record { bytes = text; whole = false }

run_row : flat_map (run_fronts strict) (of_script false false (Some script)) ≡ whole (codes "c") ∷ begun [] ∷ []
run_row = refl

-- `${a}x$?"$b"$a`
abbrev mixed : List Atom
mixed = Value (codes "a") false ∷ Plain 120 ∷ Status false ∷ Mark ∷ Value (codes "b") true ∷ Mark ∷ Value (codes "a") false ∷ []

names_row : substituted mixed ≡ codes "a" ∷ codes "b" ∷ codes "a" ∷ []
names_row = refl

mixed_row : literal_of mixed ≡ None
mixed_row = refl

-- `x"y"${a}`, and the same before it
front_row : front_of (Plain 120 ∷ Mark ∷ Quoted 121 ∷ Mark ∷ mixed) ≡ begun (codes "xy")
front_row = refl

mixed_front_row : front_of mixed ≡ begun []
mixed_front_row = refl

whole_row : front_of (Plain 120 ∷ Mark ∷ Quoted 121 ∷ Mark ∷ []) ≡ whole (codes "xy")
whole_row = refl

names_with_row : names_with (codes "ab") (codes "a" ∷ codes "ab" ∷ codes "abc" ∷ codes "ac" ∷ []) ≡ codes "ab" ∷ codes "abc" ∷ []
names_with_row = refl

-- `setenv a 1; setenv "-f" b; env set -f c "$n"; setexpr.b d 1; test "$e"x f; setenv "$n" g; env print h; echo i; env exists k; setexpr.x j`
abbrev call : List ℕ → List (List Atom) → Command
call name words = Simple (word name ∷ words)

abbrev setting : Chains
setting =
    more (call (codes "setenv") (word (codes "a") ∷ word (codes "1") ∷ []))
    (more (call (codes "setenv") ((Mark ∷ Quoted 45 ∷ Quoted 102 ∷ Mark ∷ []) ∷ word (codes "b") ∷ []))
    (more (call (codes "env") (word (codes "set") ∷ word (codes "-f") ∷ word (codes "c") ∷ value (codes "n") ∷ []))
    (more (call (codes "setexpr.b") (word (codes "d") ∷ word (codes "1") ∷ []))
    (more (call (codes "test") ((value (codes "e") ++ word (codes "x")) ∷ word (codes "f") ∷ []))
    (more (call (codes "setenv") (value (codes "n") ∷ word (codes "g") ∷ []))
    (more (call (codes "env") (word (codes "print") ∷ word (codes "h") ∷ []))
    (more (call (codes "echo") (word (codes "i") ∷ []))
    (more (call (codes "env") (word (codes "exists") ∷ word (codes "k") ∷ []))
    (alone (call (codes "setexpr.x") (word (codes "j") ∷ [])))))))))))

foreseen_row : flat_map (foreseen_names strict) (of_script false false (Some setting)) ≡ codes "a" ∷ codes "b" ∷ codes "c" ∷ codes "d" ∷ codes "e" ∷ codes "k" ∷ []
foreseen_row = refl

-- a board takes a beginning that only one command has, and what is before a dot
beginning_row : (stubs : Statuses) → entries stubs ≡ [] → get stubs (codes "seten") ≡ None → called_by (given_with Board (Some (hardware [] stubs)) []) (word (codes "seten")) ≡ Some (codes "setenv")
unfolding builtin_of with_name
beginning_row stubs none absent = simp (none, absent)

width_row : (stubs : Statuses) → get stubs (codes "test.x") ≡ None → called_by (given_with Board (Some (hardware [] stubs)) []) (word (codes "test.x")) ≡ Some (codes "test")
unfolding builtin_of
width_row stubs absent = simp absent

env_row : map (foreseen_as Board (Some (codes "env"))) ((word (codes "se") ∷ word (codes "a") ∷ []) ∷ (word (codes "exi.b") ∷ word (codes "a") ∷ []) ∷ (word (codes "s") ∷ word (codes "a") ∷ []) ∷ [])
    ≡ (codes "a" ∷ []) ∷ (codes "a" ∷ []) ∷ [] ∷ []
env_row = refl

-- neither a `for` nor an assignment, nor an argument of another command
foreseen_first_row : flat_map (foreseen_names strict) (of_script false false (Some script)) ≡ codes "a" ∷ []
foreseen_first_row = refl

-- an empty environment, in which a script gives `a` to something, and foresees `c`
abbrev known : Known
known = record { env = empty; given = is_among (codes "a" ∷ []); foreseen = is_among (codes "c" ∷ []); written = is_among (codes "d" ∷ []); reread = is_among (codes "e" ∷ []); recut = is_among (codes "f" ∷ []) }

-- by what the environment has
abbrev found : List ℕ → Option (List ℕ) → List Finding
found name o =
    if not (is_some o || is_word_of set_by_commands name || is_among (codes "a" ∷ []) name) then found_at 5 kind.UndefinedName (lacking_sentence name) ∷ [] else []

given_name_row : name_findings (Some known) 5 (codes "a") ≡ []
given_name_row = ap (found (codes "a")) (get-empty bytes_cmp (codes "a"))

lacking_row : name_findings (Some known) 5 (codes "b") ≡ found_at 5 kind.UndefinedName (codes "`${b}` names a variable that nothing defines") ∷ []
lacking_row = ap (found (codes "b")) (get-empty bytes_cmp (codes "b"))

set_row : name_findings (Some known) 5 (codes "fileaddr") ≡ []
set_row = ap (found (codes "fileaddr")) (get-empty bytes_cmp (codes "fileaddr"))

-- `${b}${b}`
again_row : names_findings (Some known) 5 None (codes "b" ∷ codes "b" ∷ []) ≡ found_at 5 kind.UndefinedName (lacking_sentence (codes "b")) ∷ []
again_row = rw (get-empty bytes_cmp (codes "b")) refl

unknown_row : name_findings None 5 (codes "b") ≡ []
unknown_row = refl

abbrev missed : List ℕ → Option (List ℕ) → List Finding
missed name o = if not (is_some o || is_among (codes "c" ∷ []) name) then found_at 5 kind.RunUndefined (undefined_sentence name) ∷ [] else []

foreseen_target_row : target_findings (Some known) 5 (whole (codes "c")) ≡ []
foreseen_target_row = ap (missed (codes "c")) (get-empty bytes_cmp (codes "c"))

given_target_row : target_findings (Some known) 5 (whole (codes "a")) ≡ found_at 5 kind.RunUndefined (codes "`run a` names a variable that is not defined") ∷ []
given_target_row = ap (missed (codes "a")) (get-empty bytes_cmp (codes "a"))

set_target_row : target_findings (Some known) 5 (whole (codes "fileaddr")) ≡ found_at 5 kind.RunUndefined (codes "`run fileaddr` names a variable that is not defined") ∷ []
set_target_row = ap (missed (codes "fileaddr")) (get-empty bytes_cmp (codes "fileaddr"))

begun_target_row : target_findings (Some known) 5 (begun (codes "a")) ≡ []
begun_target_row = refl

any_target_row : target_findings (Some known) 5 (begun []) ≡ found_at 5 kind.RunUnknown (codes "what this runs is not known, so it is not followed") ∷ []
any_target_row = refl

alone_target_row : target_findings None 5 (begun []) ≡ []
alone_target_row = refl

bracket_row : called_findings Strict None false false 3 (Some (codes "[[")) ≡ found_at 3 kind.OtherShell (codes "this shell has no `[[`: write `test`") ∷ []
bracket_row = refl

break_row : called_findings Strict None false false 3 (Some (codes "break")) ≡ found_at 3 kind.OtherShell (codes "this shell has no `break`") ∷ []
break_row = refl

function_row : called_findings Strict None false false 3 (Some (codes "f()")) ≡ found_at 3 kind.OtherShell (codes "this shell has no functions") ∷ []
function_row = refl

other_row : called_findings Strict None false false 3 (Some (codes "breaks")) ≡ []
other_row = refl

head_row : called_findings Strict None true false 3 (Some (codes "f")) ≡ found_at 3 kind.OtherShell (codes "this shell has no functions") ∷ []
unfolding builtin_of
head_row = refl

echo_row : called_findings Strict None true false 3 (Some (codes "echo")) ≡ []
unfolding builtin_of
echo_row = refl

-- ---- words that are written for another shell, and wrong use

foreign_row : map foreign_of (codes "{a}" ∷ codes "{}" ∷ codes "a`b" ∷ codes ">x" ∷ codes "a>x" ∷ [])
    ≡ Some foreign.Braces ∷ None ∷ Some foreign.Backquotes ∷ Some foreign.Redirection ∷ None ∷ []
foreign_row = refl

-- `{"a"${b}}`
plain_row : plain_of (Plain 123 ∷ Mark ∷ Quoted 97 ∷ Mark ∷ Value (codes "b") false ∷ Plain 125 ∷ []) ≡ codes "{}"
plain_row = refl

-- `setenv`, `setenv a`, `setenv a=1`, `setenv a = 1`
setting_row : map is_set_wrong ([] ∷ (word (codes "a") ∷ []) ∷ (word (codes "a=1") ∷ []) ∷ (word (codes "a") ∷ word (codes "=") ∷ word (codes "1") ∷ []) ∷ [])
    ≡ true ∷ false ∷ true ∷ true ∷ []
setting_row = refl

-- `setexpr n 1`, `setexpr n 1+`, `setexpr n gsub a b c`, `setexpr n 1 +`
calculation_row : map is_calculated_wrong
    ((word (codes "n") ∷ word (codes "1") ∷ []) ∷ (word (codes "n") ∷ word (codes "1+") ∷ [])
    ∷ (word (codes "n") ∷ word (codes "gsub") ∷ word (codes "a") ∷ word (codes "b") ∷ word (codes "c") ∷ [])
    ∷ (word (codes "n") ∷ word (codes "1") ∷ word (codes "+") ∷ []) ∷ [])
    ≡ false ∷ true ∷ false ∷ true ∷ []
calculation_row = refl

-- `test a -eq 1`, `test 1 -eq a`, `test "$a" -eq 1`
number_row : map (has_odd None)
    ((word (codes "a") ∷ word (codes "-eq") ∷ word (codes "1") ∷ []) ∷ (word (codes "1") ∷ word (codes "-eq") ∷ word (codes "a") ∷ [])
    ∷ (value (codes "a") ∷ word (codes "-eq") ∷ word (codes "1") ∷ []) ∷ [])
    ≡ true ∷ true ∷ false ∷ []
number_row = refl

-- by a board `test -n = a` is a comparison, and `test -e a b` has too few words
broken_row : map is_broken
    (after_word Board (after_word Board (after_word Board ATerm 0 (Some (codes "-n"))) 0 (Some (codes "="))) 0 (Some (codes "a"))
    ∷ after_word Board (after_word Board (after_word Board ATerm 0 (Some (codes "-e"))) 0 (Some (codes "a"))) 0 (Some (codes "b")) ∷ [])
    ≡ false ∷ true ∷ []
broken_row = refl

-- ---- statuses that are asked for

abbrev setting_of : Statement → Setting
setting_of (Calls s words) = s
setting_of (Assigns s name value) = s
setting_of (Binds s name words) = s

-- `a && b || c`
abbrev mixing : Chains
mixing = Last (First (call (codes "a") []) (Link And (call (codes "b") []) (Link Or (call (codes "c") []) End)))

mixes_row : map (λ s. (setting_of s).mixes) (of_script false false (Some mixing)) ≡ false ∷ false ∷ true ∷ []
mixes_row = refl

asked_row : map (λ s. (setting_of s).asked) (of_script false false (Some mixing)) ≡ true ∷ true ∷ false ∷ []
asked_row = refl

-- `if while a; do b; done; then c; fi`, whose status is asked for or isn't
abbrev branching : Chains
branching = alone (If (alone (While (alone (call (codes "a") [])) (alone (call (codes "b") [])))) (alone (call (codes "c") [])) Fi)

branches_row : map (λ s. (setting_of s).branchless) (of_script false true (Some branching)) ≡ true ∷ false ∷ false ∷ []
branches_row = refl

no_branches_row : map (λ s. (setting_of s).branchless) (of_script false false (Some branching)) ≡ false ∷ false ∷ false ∷ []
no_branches_row = refl

loops_row : map (λ s. (setting_of s).loops) (of_script false false (Some branching)) ≡ true ∷ false ∷ false ∷ []
loops_row = refl

-- `run a b; run c d`
abbrev running : Chains
running = more (Simple (word (codes "run") ∷ word (codes "a") ∷ word (codes "b") ∷ [])) (alone (Simple (word (codes "run") ∷ word (codes "c") ∷ word (codes "d") ∷ [])))

asked_for_row : flat_map (asked_fronts strict) (of_script false true (Some running)) ≡ whole (codes "a") ∷ whole (codes "c") ∷ whole (codes "d") ∷ []
asked_for_row = refl

not_asked_for_row : flat_map (asked_fronts strict) (of_script true false (Some running)) ≡ whole (codes "a") ∷ whole (codes "b") ∷ whole (codes "c") ∷ []
not_asked_for_row = refl

shows_row : shows_status (codes "echo a$?") ≡ true
shows_row = refl

shows_none_row : shows_status (codes "echo $a?") ≡ false
shows_none_row = refl
