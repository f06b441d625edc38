-- The words of a script: by its statements as by its tree, and those that a command takes.
use Rattle.std.proofs.Common.{◌≡◌, ℕ, Bool, true, false, ◌<◌, ◌≤◌, List, [], ◌∷◌, ◌++◌, map, length, take, drop, refl, sym, ap, ◌∙◌, arith, append_assoc, append-nil, Option, Some, None, Bor}
use Rattle.std.specs.Prelude.{unwrap_or}
use Rattle.std.specs.List.{flat_map}
use Rattle.std.proofs.lemmas.Grind.{flat_map-append}
use Rattle.std.proofs.lemmas.List.{take-append-drop}
use Rattle.hush_words.specs.Words.{Atom}
use Rattle.hush_words.specs.Parts.{Written, word_atoms}
use Rattle.hush_words.specs.declared.parts.Word.{Word}
use Rattle.hush_syntax.specs.CommandWords.{Leaf, leaf, leaf_in, name_leaf, leaves, branch_leaves, chain_leaves, link_leaves, list_leaves, script_leaves}
use Rattle.hush_syntax.specs.declared.nodes.Operator.{Operator}
use Rattle.hush_syntax.specs.Grammar.{Command, Simple, Assign, If, For, While, Until, Branches, Elif, Else, Fi, Chain, First, Links, End, Link, Chains, Last, More}
use Rattle.hush_syntax.specs.Nodes.{Subtree, OfCommand}
use Rattle.hush_syntax.specs.Trees.{words_in, name_in}
use Rattle.fw_check.specs.declared.items.Item.{Item}
use Rattle.fw_check.specs.declared.items.Item.TheVariants as item
use Rattle.fw_check.specs.declared.settings.Setting.{Setting}
use Rattle.fw_check.specs.Settings.{beginning, in_chain, in_if, in_list, in_loop, in_turn, plain}
use Rattle.fw_check.specs.Statements.{Statement, Calls, Assigns, Binds, first_operator, is_bare, is_end, item_words, statement_of, of_command, of_branches, of_chain, of_links, of_list, of_script}
use Rattle.fw_check.specs.Gathering.{BeginWith, of_subtree, statement_leaves}

-- ---- by the tree

both-leaves : (xs ys : List Statement) {us vs : List Leaf} → flat_map statement_leaves xs ≡ us → flat_map statement_leaves ys ≡ vs → flat_map statement_leaves (xs ++ ys) ≡ us ++ vs
both-leaves xs ys e f = flat_map-append statement_leaves xs ys ∙ (λ i. e i ++ f i)

module _ (shows : Bool) where
  mutual
    command-leaves : (s : Setting) (c : Command) → flat_map statement_leaves (of_command shows s c) ≡ leaves c
    command-leaves s (Simple words) = append-nil (map leaf words)
    command-leaves s (Assign name value) = refl
    command-leaves s (If c d b) =
        let cs = of_list shows (in_if s (is_bare b) true) true c in
        let ds = of_list shows (plain s.asked) true d in
        both-leaves (cs ++ ds) (of_branches shows s (is_bare b) b)
        (both-leaves cs ds (list-leaves (in_if s (is_bare b) true) true c) (list-leaves (plain s.asked) true d)) (branches-leaves s (is_bare b) b)
    command-leaves s (For name words d) = ap (λ (ls : List Leaf). name_leaf name ∷ (map leaf words ++ ls)) (list-leaves (in_turn shows s) true d)
    command-leaves s (While c d) =
        both-leaves (of_list shows (in_loop s) true c) (of_list shows (plain shows) true d) (list-leaves (in_loop s) true c) (list-leaves (plain shows) true d)
    command-leaves s (Until c d) =
        both-leaves (of_list shows (in_loop s) true c) (of_list shows (plain shows) true d) (list-leaves (in_loop s) true c) (list-leaves (plain shows) true d)

    branches-leaves : (s : Setting) (bare : Bool) (b : Branches) → flat_map statement_leaves (of_branches shows s bare b) ≡ branch_leaves b
    branches-leaves s bare (Elif c d b) =
        let cs = of_list shows (in_if s bare false) true c in
        let ds = of_list shows (plain s.asked) true d in
        both-leaves (cs ++ ds) (of_branches shows s bare b)
        (both-leaves cs ds (list-leaves (in_if s bare false) true c) (list-leaves (plain s.asked) true d)) (branches-leaves s bare b)
    branches-leaves s bare (Else d) = list-leaves (plain s.asked) true d
    branches-leaves s bare Fi = refl

    chain-leaves : (s : Setting) (c : Chain) → flat_map statement_leaves (of_chain shows s c) ≡ chain_leaves c
    chain-leaves s (First c links) =
        let own = in_chain s (first_operator links) None true (is_end links) in
        both-leaves (of_command shows own c) (of_links shows s (first_operator links) links) (command-leaves own c) (links-leaves s (first_operator links) links)

    links-leaves : (s : Setting) (operator : Option Operator) (links : Links) → flat_map statement_leaves (of_links shows s operator links) ≡ link_leaves links
    links-leaves s operator (Link o c links) =
        let own = in_chain s operator (Some o) false (is_end links) in
        both-leaves (of_command shows own c) (of_links shows s operator links) (command-leaves own c) (links-leaves s operator links)
    links-leaves s operator End = refl

    list-leaves : (s : Setting) (first : Bool) (cs : Chains) → flat_map statement_leaves (of_list shows s first cs) ≡ list_leaves cs
    list-leaves s first (Last c) = chain-leaves (in_list shows s first true) c
    list-leaves s first (More c cs) =
        let own = in_list shows s first false in
        both-leaves (of_chain shows own c) (of_list shows s false cs) (chain-leaves own c) (list-leaves s false cs)

  pub script-leaves : (asked : Bool) (tree : Option Chains) → flat_map statement_leaves (of_script shows asked tree) ≡ script_leaves tree
  script-leaves asked None = refl
  script-leaves asked (Some cs) = list-leaves (beginning asked) true cs

-- ---- the words at the front

module _ (text : Written) where
  first-left : (words left : List Word) (w : Word) (l : Leaf) (ls : List Leaf) → words ≡ w ∷ left → map (leaf_in text) words ≡ l ∷ ls → (leaf_in text w ≡ l) × (map (leaf_in text) left ≡ ls)
  first-left words left w l ls is e =
      let same : leaf_in text w ∷ map (leaf_in text) left ≡ l ∷ ls = sym (ap (map (leaf_in text)) is) ∙ e in
      (cc, cc)

  -- as many as a node's own words, whose leaves they have
  front-words : (own words : List Word) (ls : List Leaf) → map (leaf_in text) words ≡ map leaf (words_in text own) ++ ls → words_in text (take (length own) words) ≡ words_in text own
  front-words [] words ls e = refl
  front-words (v ∷ own) [] ls e = absurd (cc)
  front-words (v ∷ own) (w ∷ words) ls e =
      let first : leaf_in text w ≡ leaf_in text v = cc in
      let rest : map (leaf_in text) words ≡ map leaf (words_in text own) ++ ls = cc in
      let atoms : word_atoms text w ≡ word_atoms text v = ap (λ (l : Leaf). l.1) first in
      λ i. atoms i ∷ front-words own words ls rest i

  own-leaves : (words : List Word) → map (leaf_in text) words ≡ map leaf (words_in text words)
  own-leaves [] = refl
  own-leaves (w ∷ words) = ap (λ (ls : List Leaf). leaf_in text w ∷ ls) (own-leaves words)

  name-is : (w : Word) (name : List ℕ) → leaf_in text w ≡ name_leaf name → name_in text w ≡ name
  name-is w name e = ap (λ (l : Leaf). unwrap_or l.0 []) e

  -- an item of words is this statement, has its leaves, and takes them from the front of the words that are to come
  pub record Takes (coming left : List Word) (it : Item) (st : Statement) : Type 0 where
    pub same : statement_of text it ≡ st
    pub told : map (leaf_in text) (item_words it) ≡ statement_leaves st
    pub taken : coming ≡ item_words it ++ left

  cut : (n : ℕ) (words taken left : List Word) → taken ≡ take n words → left ≡ drop n words → words ≡ taken ++ left
  cut n words taken left e f = sym (take-append-drop n words) ∙ (λ i. sym e i ++ sym f i)

  -- ---- by the command that comes next

  module _ (shows : Bool) (s : Setting) (o : Option Subtree) (coming : List Word) (begins : BeginWith text coming (of_subtree shows s o)) where
    leaves-of : (c : Command) → o ≡ Some (OfCommand c) → map (leaf_in text) coming ≡ flat_map statement_leaves (of_command shows s c) ++ begins.0
    leaves-of c e = begins.1 ∙ ap (λ (q : Option Subtree). flat_map statement_leaves (of_subtree shows s q) ++ begins.0) e

    module _ (own : List Word) (e : o ≡ Some (OfCommand (Simple (words_in text own)))) where
      simple-begins : map (leaf_in text) coming ≡ map leaf (words_in text own) ++ begins.0
      simple-begins = leaves-of (Simple (words_in text own)) e ∙ ap (λ (ls : List Leaf). ls ++ begins.0) (append-nil (map leaf (words_in text own)))

      pub simple-takes : (taken : Bor (List Word)) (left : List Word) → taken.now ≡ take (length own) coming → left ≡ drop (length own) coming → Takes coming left (item.Call s taken) (Calls s (words_in text own))
      simple-takes taken left f g =
          let same : words_in text taken.now ≡ words_in text own = ap (words_in text) f ∙ front-words own coming begins.0 simple-begins in
          record {
            same = ap (Calls s) same;
            told = own-leaves taken.now ∙ ap (map leaf) same;
            taken = cut (length own) coming taken.now left f g;
          }

    module _ (name : List ℕ) (value : List Atom) (e : o ≡ Some (OfCommand (Assign name value))) where
      assign-begins : map (leaf_in text) coming ≡ name_leaf name ∷ leaf value ∷ begins.0
      assign-begins = leaves-of (Assign name value) e

      pub assign-takes : (w v : Word) (rest left : List Word) → coming ≡ w ∷ rest → rest ≡ v ∷ left → Takes coming left (item.Assignment s w v) (Assigns s name value)
      assign-takes w v rest left f g =
          let first = first-left coming rest w (name_leaf name) (leaf value ∷ begins.0) f assign-begins in
          let second = first-left rest left v (leaf value) begins.0 g first.1 in
          record {
            same = λ i. Assigns s (name-is w name first.0 i) (ap (λ (l : Leaf). l.1) second.0 i);
            told = λ i. first.0 i ∷ second.0 i ∷ [];
            taken = f ∙ ap (λ (ws : List Word). w ∷ ws) g;
          }

    module _ (name : List ℕ) (own : List Word) (d : Chains) (e : o ≡ Some (OfCommand (For name (words_in text own) d))) where
      abbrev body_leaves : List Leaf
      body_leaves = flat_map statement_leaves (of_list shows (in_turn shows s) true d) ++ begins.0

      for-begins : map (leaf_in text) coming ≡ name_leaf name ∷ (map leaf (words_in text own) ++ body_leaves)
      for-begins =
          leaves-of (For name (words_in text own) d) e
          ∙ ap (λ (ls : List Leaf). name_leaf name ∷ ls) (append_assoc (map leaf (words_in text own)) (flat_map statement_leaves (of_list shows (in_turn shows s) true d)) begins.0)

      for-named : (w : Word) (rest : List Word) → coming ≡ w ∷ rest → (leaf_in text w ≡ name_leaf name) × (map (leaf_in text) rest ≡ map leaf (words_in text own) ++ body_leaves)
      for-named w rest f = first-left coming rest w (name_leaf name) (map leaf (words_in text own) ++ body_leaves) f for-begins

      pub for-takes : (w : Word) (rest : List Word) (taken : Bor (List Word)) (left : List Word) → coming ≡ w ∷ rest → taken.now ≡ take (length own) rest → left ≡ drop (length own) rest →
          Takes coming left (item.Binding s w taken) (Binds s name (words_in text own))
      for-takes w rest taken left f g h =
          let first = for-named w rest f in
          let same : words_in text taken.now ≡ words_in text own = ap (words_in text) g ∙ front-words own rest body_leaves first.1 in
          record {
            same = λ i. Binds s (name-is w name first.0 i) (same i);
            told = λ i. first.0 i ∷ (own-leaves taken.now ∙ ap (map leaf) same) i;
            taken = f ∙ ap (λ (ws : List Word). w ∷ ws) (cut (length own) rest taken.now left g h);
          }
