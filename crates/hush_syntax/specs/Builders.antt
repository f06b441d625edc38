-- What a function of the parser puts into the tables.
use Rattle.std.specs.Prelude.{◌≡◌, ℕ, ◌-◌, length, take, drop, List, [], ◌∷◌, ◌++◌, map, Option, Some, None, Result, Ok, Err, ◌≤◌}
use Rattle.hush_words.specs.Parts.{Written, word_atoms}
use Rattle.hush_words.specs.Tokens.{Token}
use Rattle.hush_words.specs.declared.parts.Word.{Word}
use Rattle.hush_syntax.specs.declared.refusal.Refusal.{Refusal}
use Rattle.hush_syntax.specs.declared.nodes.NodeId.{NodeId}
use Rattle.hush_syntax.specs.declared.nodes.Link as link
use Rattle.hush_syntax.specs.declared.nodes.Branch as branch
use Rattle.hush_syntax.specs.declared.stored.Block.{Block}
use Rattle.hush_syntax.specs.declared.stored.Stored.{Stored}
use Rattle.hush_syntax.specs.declared.stored.Stored.TheVariants as stored
use Rattle.hush_syntax.specs.declared.table.Table.{Table}
use Rattle.hush_syntax.specs.declared.table.Builder.{Builder}
use Rattle.hush_syntax.specs.declared.cursor.Tokens.{Tokens}
use Rattle.hush_syntax.specs.Answers.{Refuses, left_in, words_left}
use Rattle.hush_syntax.specs.CommandWords.{PlacedWord, Spot, word_placed}
use Rattle.hush_syntax.specs.Grammar.{Command, Simple, Assign, If, For, While, Until, Branches, Elif, Chain, Chains}
use Rattle.hush_syntax.specs.Reading.{Reader}
use Rattle.hush_syntax.specs.Trees.{words_in, name_in}
use Rattle.hush_syntax.specs.Nodes.{Subtree, OfChains, OfChain, OfCommand, At, AreChains, IsChain, AreBranches, RootAt}
use Rattle.hush_syntax.specs.Stored.{Members, block_of, subtree_in}

abbrev pub members : List Word → List NodeId → List link.Link → List branch.Branch → Members
members words chains links branches = record { words = words; chains = chains; links = links; branches = branches }

abbrev pub members_of : Table → Members
members_of t = members t.words.items t.chains.items t.links.items t.branches.items

-- members, and more after them
abbrev pub followed : Members → Members → Members
followed m n = members (m.words ++ n.words) (m.chains ++ n.chains) (m.links ++ n.links) (m.branches ++ n.branches)

abbrev pub none : Members
none = members [] [] [] []

abbrev pub only_chains : List NodeId → Members
only_chains xs = members [] xs [] []

abbrev pub only_links : List link.Link → Members
only_links xs = members [] [] xs []

abbrev pub only_branches : List branch.Branch → Members
only_branches xs = members [] [] [] xs

-- the members whose nodes aren't whole
pub record Waiting : Type 0 where
  pub chains : List NodeId
  pub links : List link.Link
  pub branches : List branch.Branch

abbrev pub waits_of : List NodeId → List link.Link → List branch.Branch → Waiting
waits_of chains links branches = record { chains = chains; links = links; branches = branches }

abbrev pub waiting : Builder → Waiting
waiting b = waits_of b.waiting.chains.items b.waiting.links.items b.waiting.branches.items

abbrev pub add_chains : Waiting → List NodeId → Waiting
add_chains w xs = waits_of (w.chains ++ xs) w.links w.branches

abbrev pub add_links : Waiting → List link.Link → Waiting
add_links w xs = waits_of w.chains (w.links ++ xs) w.branches

abbrev pub add_branches : Waiting → List branch.Branch → Waiting
add_branches w xs = waits_of w.chains w.links (w.branches ++ xs)

-- no node, no member, and none that waits
abbrev pub IsEmpty : Builder → Type 0
IsEmpty b = (b.table.nodes.items ≡ []) × (members_of b.table ≡ none) × (waiting b ≡ waits_of [] [] [])

-- a member waits, and the table stays
abbrev pub Adds : {X : Type 0} → (Waiting → List X → Waiting) → Builder → Builder → X → Type 0
Adds add old new x = (new.table ≡ old.table) × (waiting new ≡ add (waiting old) (x ∷ []))

-- a node was put, and no member
abbrev pub Put : Builder → Builder → Stored → NodeId → Type 0
Put old new n id =
    (id.index ≡ length old.table.nodes.items) × (new.table.nodes.items ≡ old.table.nodes.items ++ n ∷ []) ×
    (members_of new.table ≡ members_of old.table) × (waiting new ≡ waiting old)

-- the members that waited, from the mark on, are in the table, as this block
abbrev pub SettlesChains : Builder → Builder → ℕ → Block → Type 0
SettlesChains old new mark block =
    (block.first ≡ length old.table.chains.items) × (block.len ≡ length old.waiting.chains.items - mark) ×
    (new.table.nodes.items ≡ old.table.nodes.items) ×
    (members_of new.table ≡ followed (members_of old.table) (only_chains (drop mark old.waiting.chains.items))) ×
    (waiting new ≡ waits_of (take mark old.waiting.chains.items) old.waiting.links.items old.waiting.branches.items)

abbrev pub SettlesLinks : Builder → Builder → ℕ → Block → Type 0
SettlesLinks old new mark block =
    (block.first ≡ length old.table.links.items) × (block.len ≡ length old.waiting.links.items - mark) ×
    (new.table.nodes.items ≡ old.table.nodes.items) ×
    (members_of new.table ≡ followed (members_of old.table) (only_links (drop mark old.waiting.links.items))) ×
    (waiting new ≡ waits_of old.waiting.chains.items (take mark old.waiting.links.items) old.waiting.branches.items)

abbrev pub SettlesBranches : Builder → Builder → ℕ → Block → Type 0
SettlesBranches old new mark block =
    (block.first ≡ length old.table.branches.items) × (block.len ≡ length old.waiting.branches.items - mark) ×
    (new.table.nodes.items ≡ old.table.nodes.items) ×
    (members_of new.table ≡ followed (members_of old.table) (only_branches (drop mark old.waiting.branches.items))) ×
    (waiting new ≡ waits_of old.waiting.chains.items old.waiting.links.items (take mark old.waiting.branches.items))

-- what the nodes of a table stand for when its members go on with more
abbrev pub later : Written → Table → Members → At
later text t more = subtree_in text (followed (members_of t) more) t.nodes.items

-- what was there is still there
abbrev pub Grows : Table → Table → Type 0
Grows old new =
    (nodes : List Stored) × (more : Members) × (new.nodes.items ≡ old.nodes.items ++ nodes) × (members_of new ≡ followed (members_of old) more)

-- what the parts that a function of the parser answers stand for
abbrev pub ChainsAt : At → Chains → NodeId → Type 0
ChainsAt at cs id = at id ≡ Some (OfChains cs)

abbrev pub CommandAt : At → Command → NodeId → Type 0
CommandAt at c id = at id ≡ Some (OfCommand c)

abbrev pub BranchAt : At → Chains × Chains → branch.Branch → Type 0
BranchAt at x b = (at b.condition ≡ Some (OfChains x.0)) × (at b.body ≡ Some (OfChains x.1))

abbrev pub OtherwiseAt : At → Option Chains → Option NodeId → Type 0
OtherwiseAt at None None = Unit {0}
OtherwiseAt at None (Some id) = ⊥
OtherwiseAt at (Some d) None = ⊥
OtherwiseAt at (Some d) (Some id) = at id ≡ Some (OfChains d)

abbrev pub LoopAt : (Chains → Chains → Command) → At → Command → NodeId × NodeId → Type 0
LoopAt form at x p = (c d : Chains) × (x ≡ form c d) × (at p.0 ≡ Some (OfChains c)) × (at p.1 ≡ Some (OfChains d))

-- what the reader found is what was put after what was there, with the same tokens left and no member waiting; or it
-- found nothing
abbrev pub Builds :
    {X Y : Type 0} → (At → X → Y → Type 0) → Written → Builder → Builder → Option (X × List Token) → List Token →
    Result Y Refusal → Type 0
Builds {X} Is text old new found left (Ok y) =
    (x : X) × (found ≡ Some (x, left)) × Grows old.table new.table × ((more : Members) → Is (later text new.table more) x y) ×
    (waiting new ≡ waiting old)
Builds Is text old new found left (Err r) = Refuses r (found ≡ None)

-- the same by the reader, which begins at the tokens that were left before and ends at those that are left after
abbrev pub Parses :
    {X Y : Type 0} → (At → X → Y → Type 0) → Written → Reader X → Builder → Builder → Tokens → Tokens → Result Y Refusal → Type 0
Parses Is text reader old new before after result = Builds Is text old new (reader (left_in text before)) (left_in text after) result

-- the script that was found is what the root stands for
abbrev pub RootBuilt : Written → Builder → Option (Option Chains) → Option NodeId → Type 0
RootBuilt text builder found root =
    (x : Option Chains) × (found ≡ Some x) × ((more : Members) → RootAt (later text builder.table more) x root)

abbrev pub BuildsScript : Written → Builder → Option (Option Chains) → Result (Option NodeId) Refusal → Type 0
BuildsScript text builder found (Ok root) = RootBuilt text builder found root
BuildsScript text builder found (Err r) = Refuses r (found ≡ None)

-- the words in the table, and those still to come
abbrev pub words_due : Written → Spot → Builder → Tokens → List PlacedWord
words_due text spot builder tokens = map (word_placed text) builder.table.words.items ++ words_left text spot tokens

-- words went from the tokens into the table, and all together are as they were
abbrev pub SameWords : Written → Spot → Builder → Tokens → Spot → Builder → Tokens → Type 0
SameWords text from old before to new after = words_due text to new after ≡ words_due text from old before

-- What the tables hold, as the private functions say it.

-- an `if` stands for this; what is after `else` is a list, or nothing
abbrev pub HoldsIf : Members → At → Option Subtree → Block → Option NodeId → Type 0
HoldsIf members at subtree branches otherwise =
    (c d : Chains) × (b : Branches) × (subtree ≡ Some (OfCommand (If c d b))) × AreBranches at (block_of branches members.branches) otherwise (Elif c d b)

-- a node as it is stored stands for this, if its children stand for what `at` says; the words of a `for` are its name
-- and then those after `in`, those of an assignment its name and its value
abbrev pub Holds : Written → Members → At → Option Subtree → Stored → Type 0
Holds text members at subtree (stored.List chains) = (cs : Chains) × (subtree ≡ Some (OfChains cs)) × AreChains at (block_of chains members.chains) cs
Holds text members at subtree (stored.Chain links) =
    (c : Chain) × (subtree ≡ Some (OfChain c)) × IsChain at (block_of links members.links) c × (2 ≤ length (block_of links members.links))
Holds text members at subtree (stored.If branches) = HoldsIf members at subtree branches None
Holds text members at subtree (stored.IfElse branches otherwise) = HoldsIf members at subtree branches (Some otherwise)
Holds text members at subtree (stored.For words body) =
    (n : Word) × (ws : List Word) × (d : Chains) × (block_of words members.words ≡ n ∷ ws) ×
    (subtree ≡ Some (OfCommand (For (name_in text n) (words_in text ws) d))) × (at body ≡ Some (OfChains d))
Holds text members at subtree (stored.While condition body) =
    (c d : Chains) × (subtree ≡ Some (OfCommand (While c d))) × (at condition ≡ Some (OfChains c)) × (at body ≡ Some (OfChains d))
Holds text members at subtree (stored.Until condition body) =
    (c d : Chains) × (subtree ≡ Some (OfCommand (Until c d))) × (at condition ≡ Some (OfChains c)) × (at body ≡ Some (OfChains d))
Holds text members at subtree (stored.Assign sides) =
    (n v : Word) × (block_of sides members.words ≡ n ∷ v ∷ []) × (subtree ≡ Some (OfCommand (Assign (name_in text n) (word_atoms text v))))
Holds text members at subtree (stored.Simple words) = subtree ≡ Some (OfCommand (Simple (words_in text (block_of words members.words))))

-- an `if`, with `else` or without
abbrev pub if_stored : Block → Option NodeId → Stored
if_stored branches None = stored.If branches
if_stored branches (Some otherwise) = stored.IfElse branches otherwise
