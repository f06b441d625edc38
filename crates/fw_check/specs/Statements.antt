-- The commands of a script in the order of its text, at whatever depth (docs/check.md).
use Rattle.std.specs.Prelude.{◌≡◌, ℕ, Bool, true, false, List, [], ◌∷◌, ◌++◌, map, Option, Some, None}
use Rattle.std.specs.List.{flat_map}
use Rattle.hush_words.specs.Words.{Atom}
use Rattle.hush_words.specs.Parts.{Written, written, word_atoms}
use Rattle.hush_words.specs.declared.parts.Word.{Word}
use Rattle.hush_syntax.specs.CommandWords.{word_placed, words_of}
use Rattle.hush_syntax.specs.Grammar.{Command, Simple, Assign, If, For, While, Until, Branches, Elif, Else, Fi, Chain, First, Links, End, Link, Chains, Last, More, SpellsIn}
use Rattle.hush_syntax.specs.Reading.{read_in}
use Rattle.hush_syntax.specs.declared.nodes.Bodies.{Bodies}
use Rattle.hush_syntax.specs.declared.nodes.Operator.{Operator}
use Rattle.hush_syntax.specs.Trees.{words_in, name_in}
use Rattle.fw_check.specs.Settings.{beginning, in_chain, in_if, in_list, in_loop, in_turn, plain, shows_status}
use Rattle.fw_check.specs.declared.items.Item.{Item}
use Rattle.fw_check.specs.declared.items.Item.TheVariants as item
use Rattle.fw_check.specs.declared.settings.Setting.{Setting}

-- a simple command, an assignment, or the head of a `for`, each with what is around it
pub data Statement : Type 0 where
  Calls : Setting → (words : List (List Atom)) → Statement
  Assigns : Setting → (name : List ℕ) → (value : List Atom) → Statement
  Binds : Setting → (name : List ℕ) → (words : List (List Atom)) → Statement

abbrev pub is_end : Links → Bool
is_end End = true
is_end (Link operator c links) = false

abbrev pub first_operator : Links → Option Operator
first_operator End = None
first_operator (Link operator c links) = Some operator

-- no `else` is behind the branches of an `if`
abbrev pub is_bare : Branches → Bool
is_bare (Elif c d branches) = is_bare branches
is_bare (Else d) = false
is_bare Fi = true

-- of a text that shows a status somewhere, or doesn't
module _ (shows : Bool) where
  abbrev mutual
    pub of_command : Setting → Command → List Statement
    of_command s (Simple words) = Calls s words ∷ []
    of_command s (Assign name value) = Assigns s name value ∷ []
    of_command s (If c d branches) = of_list (in_if s (is_bare branches) true) true c ++ of_list (plain s.asked) true d ++ of_branches s (is_bare branches) branches
    of_command s (For name words d) = Binds s name words ∷ of_list (in_turn shows s) true d
    of_command s (While c d) = of_list (in_loop s) true c ++ of_list (plain shows) true d
    of_command s (Until c d) = of_list (in_loop s) true c ++ of_list (plain shows) true d

    pub of_branches : Setting → (bare : Bool) → Branches → List Statement
    of_branches s bare (Elif c d branches) = of_list (in_if s bare false) true c ++ of_list (plain s.asked) true d ++ of_branches s bare branches
    of_branches s bare (Else d) = of_list (plain s.asked) true d
    of_branches s bare Fi = []

    pub of_chain : Setting → Chain → List Statement
    of_chain s (First c links) = of_command (in_chain s (first_operator links) None true (is_end links)) c ++ of_links s (first_operator links) links

    pub of_links : Setting → (first_operator : Option Operator) → Links → List Statement
    of_links s first (Link operator c links) = of_command (in_chain s first (Some operator) false (is_end links)) c ++ of_links s first links
    of_links s first End = []

    -- `first`: the first of these chains is the first of the list
    pub of_list : Setting → (first : Bool) → Chains → List Statement
    of_list s first (Last c) = of_chain (in_list shows s first true) c
    of_list s first (More c cs) = of_chain (in_list shows s first false) c ++ of_list s false cs

-- the status of the whole is asked for, or isn't
abbrev pub of_script : (shows asked : Bool) → Option Chains → List Statement
of_script shows asked None = []
of_script shows asked (Some cs) = of_list shows (beginning asked) true cs

abbrev pub of_reading : (shows asked : Bool) → Option (Option Chains) → List Statement
of_reading shows asked None = []
of_reading shows asked (Some tree) = of_script shows asked tree

-- those of the script that a text is, whose bodies are of this kind; a text that isn't a script has none
abbrev pub statements_in : Bodies → (asked : Bool) → List ℕ → List Statement
statements_in bodies asked text = of_reading (shows_status text) asked (read_in bodies text)

-- the statement of an item of the code, whose words are ranges of the text
abbrev pub statement_of : Written → Item → Statement
statement_of text (item.Call s words) = Calls s (words_in text words.now)
statement_of text (item.Assignment s name value) = Assigns s (name_in text name) (word_atoms text value)
statement_of text (item.Binding s name words) = Binds s (name_in text name) (words_in text words.now)

-- its words in the order of the text
abbrev pub item_words : Item → List Word
item_words (item.Call s words) = words.now
item_words (item.Assignment s name value) = name ∷ value ∷ []
item_words (item.Binding s name words) = name ∷ words.now

-- these are the statements of the script that this text is, whose status is asked for or isn't; and their words, one
-- after the other, are the words of the text's commands in the order of the text, each at its place
abbrev pub AreItemsOf : Bodies → (asked : Bool) → List ℕ → List Item → Type 0
AreItemsOf bodies asked text items =
    (tree : Option Chains) × SpellsIn bodies tree text × (map (statement_of (written text)) items ≡ of_script (shows_status text) asked tree)
    × (map (word_placed (written text)) (flat_map item_words items) ≡ words_of text)
