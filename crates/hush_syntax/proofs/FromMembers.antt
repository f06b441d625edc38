-- Parts of the grammar's trees, from lists of their members.
use Rattle.std.specs.Prelude.{List, [], ◌∷◌, Option, Some, None}
use Rattle.hush_syntax.specs.declared.nodes.Operator.{Operator}
use Rattle.hush_syntax.specs.declared.nodes.Operator.TheVariants.{And}
use Rattle.hush_syntax.specs.Grammar.{Command, Simple, If, Branches, Elif, Else, Fi, Chain, First, Links, Link, End, Chains, Last, More}

-- what stands for no tree
abbrev pub no_command : Command
no_command = Simple []

abbrev pub no_chain : Chain
no_chain = First no_command End

abbrev pub no_chains : Chains
no_chains = Last no_chain

-- from the members of a chain: what joins each to those before it, and the command
abbrev pub links_from : List (Option Operator × Command) → Links
links_from [] = End
links_from ((None, c) ∷ ls) = Link And no_command End
links_from ((Some o, c) ∷ ls) = Link o c (links_from ls)

abbrev pub chain_from : List (Option Operator × Command) → Chain
chain_from [] = no_chain
chain_from ((None, c) ∷ ls) = First c (links_from ls)
chain_from ((Some o, c) ∷ ls) = no_chain

abbrev pub chains_from : List Chain → Chains
chains_from [] = no_chains
chains_from (c ∷ []) = Last c
chains_from (c ∷ d ∷ cs) = More c (chains_from (d ∷ cs))

-- from each condition with its body, and what is after `else`
abbrev pub branches_from : List (Chains × Chains) → Option Chains → Branches
branches_from [] None = Fi
branches_from [] (Some d) = Else d
branches_from ((c, d) ∷ bs) otherwise = Elif c d (branches_from bs otherwise)

abbrev pub if_from : List (Chains × Chains) → Option Chains → Command
if_from [] otherwise = no_command
if_from ((c, d) ∷ bs) otherwise = If c d (branches_from bs otherwise)
