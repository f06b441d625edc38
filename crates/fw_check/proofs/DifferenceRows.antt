-- What boards do in another way, read by the definitions alone.
use Rattle.std.proofs.Common.{◌≡◌, ℕ, true, false, List, [], ◌∷◌, ◌++◌, map, codes, refl, replicate, Option, Some, None}
use Rattle.std.specs.List.{list_any}
use Rattle.std.specs.FinMap.{empty}
use Rattle.hush_words.specs.Words.{Atom}
use Rattle.hush_words.specs.Words.Atom.{Plain, Mark, Value}
use Rattle.hush_commands.specs.declared.shell.Shell.TheVariants.{Board}
use Rattle.finding_kinds.specs.declared.kinds.FindingKind.{FindingKind}
use Rattle.finding_kinds.specs.declared.kinds.FindingKind.TheVariants as kind
use Rattle.fw_check.specs.Excerpts.{Spot, excerpt_at, excerpt_of}
use Rattle.fw_check.specs.ReportLines.{Finding}
use Rattle.fw_check.specs.Findings.{is_reserved, stored_findings, unset_findings}
use Rattle.fw_check.specs.Following.{is_among}
use Rattle.fw_check.specs.Knowing.{Known, is_recut, rereads, reread_names, short_value}
use Rattle.fw_check.specs.Lines.{File, Variable}
use Rattle.fw_check.specs.Misuse.{begin_wrong, is_operand_wrong, is_set_wrong}
use Rattle.fw_check.specs.Origins.{Own}
use Rattle.fw_check.specs.Quoting.{quoting_findings}

abbrev places : List Finding → List (ℕ × FindingKind)
places fs = map (λ f. (f.count, f.kind)) fs

-- ---- quotes and lines

-- an operator, a comment, a newline
loose_row : places (quoting_findings (codes "true || # no\necho a")) ≡ (12, kind.LooseOperators) ∷ []
loose_row = refl

-- a `#` inside a word is no comment, and a list ends at a `;`
no_comment_row : places (quoting_findings (codes "a ||b#c\nd; e\n")) ≡ []
no_comment_row = refl

-- in a word, between words, and behind an operator
joined_row : places (quoting_findings (codes "a\\\nb \\\n c && \\\nd")) ≡ (1, kind.JoinedLines) ∷ (5, kind.JoinedLines) ∷ (13, kind.JoinedLines) ∷ []
joined_row = refl

-- `"it's\"" $_x ${_x} \$_x`
double_row : places (quoting_findings (codes "\"it's\\\"\" $_x ${_x} \\$_x"))
    ≡ (3, kind.Apostrophes) ∷ (5, kind.BackslashesInQuotes) ∷ (9, kind.UnderscoredNames) ∷ []
double_row = refl

-- `'a\b$_' # it's "\"`
single_row : places (quoting_findings (codes "'a\\b$_' # it's \"\\\"")) ≡ (2, kind.BackslashesInQuotes) ∷ []
single_row = refl

-- a `\` before another byte stands for itself on a board too
kept_row : places (quoting_findings (codes "\"\\n\" a\\;b")) ≡ []
kept_row = refl

-- ---- a backslash that is stored

stored_row : places (stored_findings (Own (Variable (codes "a"))) (codes "b \\; c\\")) ≡ (2, kind.Backslashes) ∷ []
stored_row = refl

file_row : places (stored_findings (Own (File (codes "a"))) (codes "b \\; c")) ≡ []
file_row = refl

-- ---- the line below a finding

abbrev spot : List ℕ → ℕ → Option Spot
spot text count = Some (record { text = text; count = count })

near_row : excerpt_of (spot (codes "a\nrun b || laod\nc") 11) ≡ codes "run b || laod\n         ^\n"
unfolding excerpt_at
near_row = refl

cut_row : excerpt_of (spot (replicate 50 97 ++ replicate 50 98) 50) ≡ codes "..." ++ replicate 30 97 ++ replicate 40 98 ++ codes "...\n" ++ replicate 33 32 ++ codes "^\n"
unfolding excerpt_at
cut_row = refl

-- what fits isn't cut
whole_row : excerpt_of (spot (replicate 30 97 ++ replicate 40 98) 30) ≡ replicate 30 97 ++ replicate 40 98 ++ codes "\n" ++ replicate 30 32 ++ codes "^\n"
unfolding excerpt_at
whole_row = refl

-- a tab, a byte 1 and one above 126; at the end
end_row : excerpt_of (spot (9 ∷ 1 ∷ 195 ∷ []) 9) ≡ codes " ??\n   ^\n"
unfolding excerpt_at
end_row = refl

-- ---- values that are read anew

recut_row : map is_recut (codes "a #b" ∷ codes "#" ∷ codes "a#b" ∷ codes "a\"b" ∷ codes "a'b" ∷ []) ≡ true ∷ true ∷ false ∷ true ∷ false ∷ []
recut_row = refl

rereads_row : map (list_any rereads) (codes "it's" ∷ codes "a\\b" ∷ codes "a\nb" ∷ codes "a\"b #" ∷ []) ≡ true ∷ true ∷ true ∷ false ∷ []
rereads_row = refl

abbrev known : Known
known = record {
  env = empty;
  given = is_among [];
  foreseen = is_among [];
  written = is_among [];
  reread = is_among (codes "e" ∷ []);
  recut = is_among (codes "f" ∷ []);
}

-- `"$f"$f"$e"$g`
abbrev mixed : List Atom
mixed = Mark ∷ Value (codes "f") true ∷ Value (codes "f") false ∷ Mark ∷ Value (codes "e") true ∷ Value (codes "g") false ∷ []

cut_names_row : reread_names (Some known) true mixed ≡ codes "f" ∷ codes "e" ∷ []
cut_names_row = refl

uncut_names_row : reread_names (Some known) false mixed ≡ codes "e" ∷ []
uncut_names_row = refl

-- ---- values that may be names

short_row : map short_value (Some (codes "a") ∷ Some (replicate 4096 97) ∷ Some (replicate 4097 97) ∷ []) ≡ Some (codes "a") ∷ Some (replicate 4096 97) ∷ None ∷ []
short_row = refl

-- ---- words of commands

abbrev word : List ℕ → List Atom
word text = map Plain text

-- `env exists a b`, `env exi a`, `env delete -f`, `env save x`, `env run`, `env set a=b`, `env import a`
operand_row : map (is_operand_wrong Board)
    ((word (codes "exists") ∷ word (codes "a") ∷ word (codes "b") ∷ []) ∷ (word (codes "exi") ∷ word (codes "a") ∷ [])
    ∷ (word (codes "delete") ∷ word (codes "-f") ∷ []) ∷ (word (codes "save") ∷ word (codes "x") ∷ []) ∷ (word (codes "run") ∷ [])
    ∷ (word (codes "set") ∷ word (codes "a=b") ∷ []) ∷ (word (codes "import") ∷ word (codes "a") ∷ []) ∷ [])
    ≡ true ∷ false ∷ true ∷ true ∷ true ∷ true ∷ false ∷ []
operand_row = refl

-- `setenv -f`, `setenv "" 1`, `setenv -f a`
forced_row : map is_set_wrong ((word (codes "-f") ∷ []) ∷ ((Mark ∷ []) ∷ word (codes "1") ∷ []) ∷ (word (codes "-f") ∷ word (codes "a") ∷ []) ∷ []) ≡ true ∷ true ∷ false ∷ []
forced_row = refl

-- behind `setexpr n 5`: `** 2`, `* 2`, `$o 2`
operator_row : map begin_wrong ((word (codes "**") ∷ word (codes "2") ∷ []) ∷ (word (codes "*") ∷ word (codes "2") ∷ []) ∷ ((Value (codes "o") false ∷ []) ∷ word (codes "2") ∷ []) ∷ [])
    ≡ true ∷ false ∷ false ∷ []
operator_row = refl

reserved_row : map is_reserved (Some (codes "in") ∷ Some (codes "done") ∷ Some (codes "dones") ∷ None ∷ []) ≡ true ∷ true ∷ false ∷ false ∷ []
reserved_row = refl

unset_row : map (λ value. places (unset_findings 4 value)) (Some [] ∷ Some (codes "a") ∷ None ∷ []) ≡ ((4, kind.EmptyAssignment) ∷ []) ∷ [] ∷ [] ∷ []
unset_row = refl
