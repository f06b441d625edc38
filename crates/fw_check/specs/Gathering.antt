-- How the statements of a script are gathered: node by node, with the nodes still to come on a stack.
use Rattle.std.specs.Prelude.{◌≡◌, ℕ, ◌+◌, ◌<◌, Bool, true, false, List, [], ◌∷◌, ◌++◌, map, Option, Some, None, is_none, IsSome}
use Rattle.std.specs.List.{flat_map}
use Rattle.hush_words.specs.Parts.{Written}
use Rattle.hush_words.specs.declared.parts.Word.{Word}
use Rattle.hush_syntax.specs.CommandWords.{Leaf, leaf, leaf_in, name_leaf}
use Rattle.hush_syntax.specs.declared.nodes.NodeId.{NodeId}
use Rattle.hush_syntax.specs.declared.nodes.Branch as branch
use Rattle.hush_syntax.specs.declared.nodes.Link as link
use Rattle.hush_syntax.specs.declared.nodes.Operator.{Operator}
use Rattle.hush_syntax.specs.Grammar.{Command, Simple, Assign, If, For, While, Until, Branches, Elif, Else, Fi, Chain, First, Links, End, Link, Chains, Last, More}
use Rattle.hush_syntax.specs.Nodes.{At, Subtree, OfChains, OfChain, OfCommand}
use Rattle.fw_check.specs.declared.items.Item.{Item}
use Rattle.fw_check.specs.Settings.{in_chain, in_if, in_list, plain}
use Rattle.fw_check.specs.Statements.{Statement, Calls, Assigns, Binds, item_words, statement_of, of_command, of_chain, of_list}
use Rattle.fw_check.specs.declared.items.Part.{Part}
use Rattle.fw_check.specs.declared.settings.Setting.{Setting}

abbrev pub of_subtree : (shows : Bool) → Setting → Option Subtree → List Statement
of_subtree shows s None = []
of_subtree shows s (Some (OfChains cs)) = of_list shows s true cs
of_subtree shows s (Some (OfChain c)) = of_chain shows s c
of_subtree shows s (Some (OfCommand c)) = of_command shows s c

-- the statements of the parts that are still to come
abbrev pub still_to_come : (shows : Bool) → At → List Part → List Statement
still_to_come shows at parts = flat_map (λ p. of_subtree shows p.setting (at p.id)) parts

-- each of them is a node of the script
abbrev pub AreKnown : At → List Part → Type 0
AreKnown at [] = Unit {0}
AreKnown at (p ∷ parts) = IsSome (at p.id) × AreKnown at parts

-- greater than the sizes of its parts together
abbrev mutual
  pub command_size : Command → ℕ
  command_size (Simple words) = 1
  command_size (Assign name value) = 1
  command_size (If c d branches) = 1 + (list_size c + (list_size d + branch_size branches))
  command_size (For name words d) = 1 + list_size d
  command_size (While c d) = 1 + (list_size c + list_size d)
  command_size (Until c d) = 1 + (list_size c + list_size d)

  pub branch_size : Branches → ℕ
  branch_size (Elif c d branches) = list_size c + (list_size d + branch_size branches)
  branch_size (Else d) = list_size d
  branch_size Fi = 0

  pub chain_size : Chain → ℕ
  chain_size (First c links) = 1 + (command_size c + link_size links)

  pub link_size : Links → ℕ
  link_size (Link operator c links) = command_size c + link_size links
  link_size End = 0

  pub list_size : Chains → ℕ
  list_size (Last c) = 1 + chain_size c
  list_size (More c cs) = chain_size c + list_size cs

abbrev pub size_of : Option Subtree → ℕ
size_of None = 0
size_of (Some (OfChains cs)) = list_size cs
size_of (Some (OfChain c)) = chain_size c
size_of (Some (OfCommand c)) = command_size c

abbrev pub size_at : At → List Part → ℕ
size_at at [] = 0
size_at at (p ∷ parts) = size_of (at p.id) + size_at at parts

abbrev pub part : NodeId → Setting → Part
part id s = record { id = id; setting = s }

abbrev pub is_nil : {X : Type 0} → List X → Bool
is_nil [] = true
is_nil (x ∷ xs) = false

-- the chains of a list
abbrev pub list_parts : (shows : Bool) → Setting → (first : Bool) → List NodeId → List Part
list_parts shows s first [] = []
list_parts shows s first (id ∷ ids) = part id (in_list shows s first (is_nil ids)) ∷ list_parts shows s false ids

-- the commands of a chain
abbrev pub operator_of : List link.Link → Option Operator
operator_of [] = None
operator_of (l ∷ []) = None
operator_of (l ∷ m ∷ ls) = m.operator

abbrev pub link_parts : Setting → (operator : Option Operator) → (first : Bool) → List link.Link → List Part
link_parts s operator first [] = []
link_parts s operator first (l ∷ ls) = part l.command (in_chain s operator l.operator first (is_nil ls)) ∷ link_parts s operator false ls

-- the parts of an `if`
abbrev pub branch_parts : Setting → (bare first : Bool) → List branch.Branch → List Part
branch_parts s bare first [] = []
branch_parts s bare first (b ∷ bs) = part b.condition (in_if s bare first) ∷ part b.body (plain s.asked) ∷ branch_parts s bare false bs

abbrev pub otherwise_part : Setting → Option NodeId → List Part
otherwise_part s None = []
otherwise_part s (Some id) = part id (plain s.asked) ∷ []

abbrev pub if_parts : Setting → (first : Bool) → List branch.Branch → Option NodeId → List Part
if_parts s first bs otherwise = branch_parts s (is_none otherwise) first bs ++ otherwise_part s otherwise

-- the words of a statement
abbrev pub statement_leaves : Statement → List Leaf
statement_leaves (Calls s words) = map leaf words
statement_leaves (Assigns s name value) = name_leaf name ∷ leaf value ∷ []
statement_leaves (Binds s name words) = name_leaf name ∷ map leaf words

-- these words of a text are those of these statements, and then others
abbrev pub BeginWith : Written → List Word → List Statement → Type 0
BeginWith text words statements = (rest : List Leaf) × (map (leaf_in text) words ≡ flat_map statement_leaves statements ++ rest)

-- a part's statements are these items, and then those of these parts, which are smaller together
pub record HasParts (text : Written) (shows : Bool) (at : At) (p : Part) (items : List Item) (parts : List Part) : Type 0 where
  pub known : AreKnown at parts
  pub same : of_subtree shows p.setting (at p.id) ≡ map (statement_of text) items ++ still_to_come shows at parts
  pub told : map (leaf_in text) (flat_map item_words items) ≡ flat_map statement_leaves (map (statement_of text) items)
  pub smaller : size_at at parts < size_of (at p.id)
