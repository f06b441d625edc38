-- The words of a script's commands in the order of its text, each with its place: all but the reserved words of its forms and
-- the `in` of a `for`. An assignment is two words, its name and its value.
use Rattle.std.specs.Prelude.{ℕ, List, [], ◌∷◌, ◌++◌, map, Option, Some, None}
use Rattle.hush_words.specs.Words.{Atom}
use Rattle.hush_words.specs.Words.Atom.{Plain}
use Rattle.hush_words.specs.Forms.{name_of, assignment_of}
use Rattle.hush_words.specs.Faults.{Placed, placed_tokens}
use Rattle.hush_words.specs.Parts.{Written, written, word_atoms}
use Rattle.hush_words.specs.Tokens.Token.{Word, Newline, Semicolon, AndIf, OrIf}
use Rattle.hush_words.specs.Views.{value_place}
use Rattle.hush_words.specs.declared.parts.Word as range
use Rattle.hush_syntax.specs.declared.keywords.Keyword.{Keyword}
use Rattle.hush_syntax.specs.declared.keywords.Keyword.TheVariants as keyword
use Rattle.hush_syntax.specs.Keywords.{keyword_of}
use Rattle.hush_syntax.specs.Grammar.{Command, Simple, Assign, If, For, While, Until, Branches, Elif, Else, Fi, Chain, First, Links, End, Link, Chains, Last, More}

-- where a word stands
pub data Spot : Type 0 where
  Beginning : Spot  -- where a command may begin
  Within : Spot  -- in a command, and behind `fi` and `done`, where no word may come
  Naming : Spot  -- behind `for`
  Listing : Spot  -- behind the name of a `for`

-- behind a reserved word
abbrev pub spot_behind : Keyword → Spot
spot_behind keyword.If = Beginning
spot_behind keyword.Then = Beginning
spot_behind keyword.Elif = Beginning
spot_behind keyword.Else = Beginning
spot_behind keyword.Fi = Within
spot_behind keyword.For = Naming
spot_behind keyword.While = Beginning
spot_behind keyword.Until = Beginning
spot_behind keyword.Do = Beginning
spot_behind keyword.Done = Within

-- a word, and how many bytes of the text are before it
abbrev pub PlacedWord : Type 0
PlacedWord = ℕ × List Atom

-- the first word of a command, which may be an assignment
abbrev pub begun_words : Written → ℕ → List Atom → Option (List ℕ × List Atom) → List PlacedWord
begun_words text place w None = (place, w) ∷ []
begun_words text place w (Some a) = (place, map Plain a.0) ∷ (value_place text place, a.1) ∷ []

-- the words of commands among these tokens of a text, the first of which is at such a spot
unfoldable pub words_from : Written → Spot → List Placed → List PlacedWord
words_from text spot [] = []
words_from text Beginning ((place, Word w) ∷ ts) =
    elim (keyword_of w) [
      | Some k ↦ words_from text (spot_behind k) ts
      | None ↦ begun_words text place w (assignment_of w) ++ words_from text Within ts
    ]
words_from text Within ((place, Word w) ∷ ts) = (place, w) ∷ words_from text Within ts
words_from text Naming ((place, Word w) ∷ ts) = (place, w) ∷ words_from text Listing ts
words_from text Listing ((place, Word w) ∷ ts) = words_from text Within ts
words_from text spot ((place, Newline) ∷ ts) = words_from text Beginning ts
words_from text spot ((place, Semicolon) ∷ ts) = words_from text Beginning ts
words_from text spot ((place, AndIf) ∷ ts) = words_from text Beginning ts
words_from text spot ((place, OrIf) ∷ ts) = words_from text Beginning ts

-- those of a text
abbrev pub words_of : List ℕ → List PlacedWord
words_of source = words_from (written source) Beginning (placed_tokens source)

-- a range of a text as such a word
abbrev pub word_placed : Written → range.Word → PlacedWord
word_placed text w = (w.start, word_atoms text w)

-- ---- the same words by the tree that the text spells

-- a word, with the name that it is if it is one
abbrev pub Leaf : Type 0
Leaf = Option (List ℕ) × List Atom

abbrev pub leaf : List Atom → Leaf
leaf atoms = (name_of atoms, atoms)

abbrev pub leaf_in : Written → range.Word → Leaf
leaf_in text w = leaf (word_atoms text w)

abbrev pub name_leaf : List ℕ → Leaf
name_leaf name = (Some name, map Plain name)

abbrev mutual
  pub leaves : Command → List Leaf
  leaves (Simple words) = map leaf words
  leaves (Assign name value) = name_leaf name ∷ leaf value ∷ []
  leaves (If c d branches) = list_leaves c ++ list_leaves d ++ branch_leaves branches
  leaves (For name words d) = name_leaf name ∷ (map leaf words ++ list_leaves d)
  leaves (While c d) = list_leaves c ++ list_leaves d
  leaves (Until c d) = list_leaves c ++ list_leaves d

  pub branch_leaves : Branches → List Leaf
  branch_leaves (Elif c d branches) = list_leaves c ++ list_leaves d ++ branch_leaves branches
  branch_leaves (Else d) = list_leaves d
  branch_leaves Fi = []

  pub chain_leaves : Chain → List Leaf
  chain_leaves (First c links) = leaves c ++ link_leaves links

  pub link_leaves : Links → List Leaf
  link_leaves (Link operator c links) = leaves c ++ link_leaves links
  link_leaves End = []

  pub list_leaves : Chains → List Leaf
  list_leaves (Last c) = chain_leaves c
  list_leaves (More c cs) = chain_leaves c ++ list_leaves cs

abbrev pub script_leaves : Option Chains → List Leaf
script_leaves None = []
script_leaves (Some cs) = list_leaves cs
