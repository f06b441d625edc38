-- Which part of the grammar's tree each node of a table stands for, as the table holds it.
use Rattle.std.specs.Prelude.{take, drop, List, [], ◌∷◌, ◌++◌, Option, Some, None, slice_get}
use Rattle.std.specs.Option.{option_map}
use Rattle.hush_words.specs.Parts.{Written, word_atoms}
use Rattle.hush_words.specs.declared.parts.Word.{Word}
use Rattle.hush_syntax.specs.declared.stored.Block.{Block}
use Rattle.hush_syntax.specs.declared.stored.Stored.{Stored}
use Rattle.hush_syntax.specs.declared.stored.Stored.TheVariants as stored
use Rattle.hush_syntax.specs.declared.nodes.NodeId.{NodeId}
use Rattle.hush_syntax.specs.declared.nodes.Link as link
use Rattle.hush_syntax.specs.declared.nodes.Branch as branch
use Rattle.hush_syntax.specs.Grammar.{Command, Simple, Assign, If, For, While, Until, Branches, Elif, Else, Fi, Chain, First, Links, End, Link, Chains, Last, More}
use Rattle.hush_syntax.specs.Reading.{bind}
use Rattle.hush_syntax.specs.Trees.{words_in, name_in}
use Rattle.hush_syntax.specs.Nodes.{Subtree, OfChains, OfChain, OfCommand, At, chains_of, chain_of, command_of}

-- the members of a table that a block is, as far as they are there
abbrev pub block_of : {X : Type 0} → Block → List X → List X
block_of b xs = take b.len (drop b.first xs)

-- what the members of nodes are in
pub record Members : Type 0 where
  pub words : List Word
  pub chains : List NodeId
  pub links : List link.Link
  pub branches : List branch.Branch

-- the name and after it the words
abbrev pub for_of : Written → List Word → Chains → Option Subtree
for_of text [] d = None
for_of text (n ∷ ws) d = Some (OfCommand (For (name_in text n) (words_in text ws) d))

-- the name and after it the value
abbrev pub assign_of : Written → List Word → Option Subtree
assign_of text [] = None
assign_of text (n ∷ []) = None
assign_of text (n ∷ v ∷ []) = Some (OfCommand (Assign (name_in text n) (word_atoms text v)))
assign_of text (n ∷ v ∷ w ∷ ws) = None

-- what a node stands for, given what its children stand for
module _ (at : At) where
  abbrev pub chains_at : List NodeId → Option Chains
  chains_at [] = None
  chains_at (id ∷ []) = option_map Last (bind (at id) chain_of)
  chains_at (id ∷ next ∷ ids) = bind (bind (at id) chain_of) (λ c. option_map (More c) (chains_at (next ∷ ids)))

  abbrev pub links_at : List link.Link → Option Links
  links_at [] = Some End
  links_at (l ∷ ls) = bind l.operator (λ o. bind (bind (at l.command) command_of) (λ c. option_map (Link o c) (links_at ls)))

  abbrev pub chain_at : List link.Link → Option Chain
  chain_at [] = None
  chain_at (l ∷ []) = None
  chain_at (l ∷ m ∷ ls) =
      bind (bind (at l.command) command_of) (λ c. elim l.operator [ None ↦ option_map (First c) (links_at (m ∷ ls)) | Some o ↦ None ])

  abbrev pub branches_at : List branch.Branch → Option NodeId → Option Branches
  branches_at [] None = Some Fi
  branches_at [] (Some id) = option_map Else (bind (at id) chains_of)
  branches_at (b ∷ bs) otherwise =
      bind (bind (at b.condition) chains_of) (λ c. bind (bind (at b.body) chains_of) (λ d. option_map (Elif c d) (branches_at bs otherwise)))

  abbrev pub if_at : Branches → Option Command
  if_at (Elif c d branches) = Some (If c d branches)
  if_at (Else d) = None
  if_at Fi = None

  abbrev pub if_built : List branch.Branch → Option NodeId → Option Subtree
  if_built bs otherwise = option_map OfCommand (bind (branches_at bs otherwise) if_at)

  abbrev pub built : Written → Members → Stored → Option Subtree
  built text members (stored.List chains) = option_map OfChains (chains_at (block_of chains members.chains))
  built text members (stored.Chain links) = option_map OfChain (chain_at (block_of links members.links))
  built text members (stored.If branches) = if_built (block_of branches members.branches) None
  built text members (stored.IfElse branches otherwise) = if_built (block_of branches members.branches) (Some otherwise)
  built text members (stored.For words body) = bind (bind (at body) chains_of) (for_of text (block_of words members.words))
  built text members (stored.While condition body) =
      bind (bind (at condition) chains_of) (λ c. bind (bind (at body) chains_of) (λ d. Some (OfCommand (While c d))))
  built text members (stored.Until condition body) =
      bind (bind (at condition) chains_of) (λ c. bind (bind (at body) chains_of) (λ d. Some (OfCommand (Until c d))))
  built text members (stored.Assign sides) = assign_of text (block_of sides members.words)
  built text members (stored.Simple words) = Some (OfCommand (Simple (words_in text (block_of words members.words))))

abbrev pub found : List (Option Subtree) → At
found subtrees id = bind (slice_get subtrees id.index) (λ o. o)

-- the nodes from left to right: a node's children come before it
abbrev pub subtrees_from : Written → Members → List (Option Subtree) → List Stored → List (Option Subtree)
subtrees_from text members subtrees [] = subtrees
subtrees_from text members subtrees (n ∷ ns) = subtrees_from text members (subtrees ++ built (found subtrees) text members n ∷ []) ns

-- what each node of a table stands for
unfoldable pub subtrees_in : Written → Members → List Stored → List (Option Subtree)
subtrees_in text members nodes = subtrees_from text members [] nodes

abbrev pub subtree_in : Written → Members → List Stored → At
subtree_in text members nodes = found (subtrees_in text members nodes)
