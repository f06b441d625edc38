-- What a block and a dot line ask for (docs/dry-runs.md, "Input").
use Rattle.std.specs.Prelude.{ℕ, ◌==◌, ◌||◌, ◌&&◌, nat_le, not, Bool, if◌then◌else◌, List, [], ◌∷◌, ◌++◌, length, take, drop, codes, Option, Some, None}
use Rattle.std.specs.List.{list_any}
use Rattle.std.specs.Str.{bytes_eq}
use Rattle.hush_syntax.specs.Grammar.{Chains}
use Rattle.hush_syntax.specs.Reading.{read_in}
use Rattle.hush_syntax.specs.declared.nodes.Bodies.{Bodies}
use Rattle.env_requests.specs.Requests.{Request, Run, Save, Print, Mark, Undo, Note, Through, Refused, Stopped}
use Rattle.fw_session.specs.Input.{Item, Block, Dot}

-- `Says`: nothing is asked for, and this is printed; `Asks`: a request, and the name of the mark if it makes
-- one; `Seeks`: an undo to the last mark of a name
pub data Asked : Type 0 where
  Says : List ℕ → Asked
  Asks : Request → Option (List ℕ) → Asked
  Seeks : List ℕ → Asked

abbrev pub with_newline : List ℕ → List ℕ
with_newline text = text ++ 10 ∷ []

abbrev pub no_memory : List ℕ
no_memory = with_newline (codes "[Memory]")

abbrev pub is_end_blank : ℕ → Bool
is_end_blank b = (b == 32) || (b == 9) || (b == 13) || (b == 10)

abbrev pub onto_trimmed : ℕ → List ℕ → List ℕ
onto_trimmed b [] = if is_end_blank b then [] else b ∷ []
onto_trimmed b (c ∷ cs) = b ∷ c ∷ cs

-- a line without the blanks, carriage returns and the newline at its end
abbrev pub trimmed : List ℕ → List ℕ
trimmed [] = []
trimmed (b ∷ bs) = onto_trimmed b (trimmed bs)

abbrev pub is_blank : ℕ → Bool
is_blank b = (b == 32) || (b == 9)

abbrev pub skipped : List ℕ → List ℕ
skipped [] = []
skipped (b ∷ bs) = if is_blank b then skipped bs else b ∷ bs

-- one or more blanks, and then 1 to 32 bytes that are not blanks
abbrev pub is_name : List ℕ → Bool
is_name name = nat_le 1 (length name) && nat_le (length name) 32 && not (list_any is_blank name)

abbrev pub name_in : List ℕ → Option (List ℕ)
name_in [] = None
name_in (b ∷ bs) = if is_blank b && is_name (skipped bs) then Some (skipped bs) else None

abbrev pub unknown : Asked
unknown = Says (with_newline (codes "[Unknown]"))

abbrev pub mark_asked : Option (List ℕ) → Asked
mark_asked None = unknown
mark_asked (Some name) = Asks Mark (Some name)

abbrev pub undo_asked : Option (List ℕ) → Asked
undo_asked None = unknown
undo_asked (Some name) = Seeks name

abbrev pub asked_with_name : List ℕ → Asked
asked_with_name word =
    if bytes_eq (take 5 word) (codes ".mark") then mark_asked (name_in (drop 5 word))
    else if bytes_eq (take 5 word) (codes ".undo") then undo_asked (name_in (drop 5 word))
    else unknown

abbrev pub asked_by_word : List ℕ → Asked
asked_by_word word =
    if bytes_eq word (codes ".undo") then Asks Undo None
    else if bytes_eq word (codes ".save") then Asks Save None
    else if bytes_eq word (codes ".print") then Asks Print None
    else asked_with_name word

unfoldable pub asked_by_line : List ℕ → Asked
asked_by_line line = asked_by_word (trimmed line)

-- a block that isn't a script, or a run
abbrev pub asked_by_script : Option (Option Chains) → Asked
asked_by_script None = Says (with_newline (codes "[Syntax]"))
asked_by_script (Some tree) = Asks (Run tree) None

-- memory may run out while a block is read as a script, whose bodies are of this kind
abbrev pub asked_by_block : Bodies → List ℕ → Note → Asked
asked_by_block bodies text Through = asked_by_script (read_in bodies text)
asked_by_block bodies text Refused = Says no_memory
asked_by_block bodies text (Stopped n) = asked_by_script (read_in bodies text)

unfoldable pub asked_by : Bodies → Item → Note → Asked
asked_by bodies (Block text) note = asked_by_block bodies text note
asked_by bodies (Dot line) note = asked_by_line line
