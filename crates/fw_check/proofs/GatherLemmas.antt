-- The parts of a node, by its statements.
use Rattle.std.proofs.Common.{◌≡◌, ℕ, Bool, true, false, ◌+◌, ◌<◌, ◌≤◌, List, [], ◌∷◌, ◌++◌, map, Option, Some, None, refl, sym, ap, ◌∙◌, arith, append_assoc, append-nil, subst}
use Rattle.std.specs.Prelude.{IsSome, OnOk, Result, Ok, Err, is_none}
use Rattle.std.proofs.lemmas.Grind.{flat_map-append}
use Rattle.std.proofs.lemmas.List.{append_cancel_left, map-append}
use Rattle.std.specs.List.{flat_map}
use Rattle.hush_words.specs.Words.{Atom}
use Rattle.hush_words.specs.Parts.{Written}
use Rattle.hush_words.specs.declared.parts.Word.{Word}
use Rattle.hush_syntax.specs.CommandWords.{Leaf, leaf_in, script_leaves}
use Rattle.hush_syntax.specs.declared.nodes.NodeId.{NodeId}
use Rattle.hush_syntax.specs.declared.nodes.Link as link
use Rattle.hush_syntax.specs.declared.nodes.Branch as branch
use Rattle.hush_syntax.specs.declared.nodes.Operator.{Operator}
use Rattle.hush_syntax.specs.Grammar.{Command, Simple, Assign, If, For, While, Until, Branches, Elif, Else, Fi, Chain, First, Links, End, Link, Chains, Last, More}
use Rattle.hush_syntax.specs.Reading.{bind}
use Rattle.hush_syntax.specs.Nodes.{At, Subtree, OfChains, OfChain, OfCommand, chain_of, AreChains, AreLinks, IsChain, AreBranches}
use Rattle.fw_check.specs.declared.items.Item.{Item}
use Rattle.fw_check.specs.declared.items.Part.{Part}
use Rattle.fw_check.specs.declared.settings.Setting.{Setting}
use Rattle.fw_check.specs.Settings.{beginning, in_chain, in_if, in_list, in_loop, in_turn, plain}
use Rattle.fw_check.specs.Statements.{Statement, Calls, Assigns, Binds, first_operator, is_bare, is_end, item_words, statement_of, of_command, of_branches, of_chain, of_links, of_list, of_script}
use Rattle.fw_check.specs.Gathering.{AreKnown, BeginWith, HasParts, branch_parts, branch_size, chain_size, command_size, if_parts, is_nil, link_parts, link_size, list_parts, list_size, of_subtree, operator_of, otherwise_part, part, size_at, size_of, statement_leaves, still_to_come}
use Rattle.fw_check.proofs.LeafLemmas.{Takes, script-leaves}

-- some parts are these statements, and are smaller together than this
pub record Are (shows : Bool) (at : At) (parts : List Part) (statements : List Statement) (most : ℕ) : Type 0 where
  pub known : AreKnown at parts
  pub same : still_to_come shows at parts ≡ statements
  pub size : size_at at parts ≤ most

module _ (shows : Bool) (at : At) where
  none-are : Are shows at [] [] 0
  none-are = record { known = tt; same = refl; size = omega arith }

  -- one more before them
  one-more : (id : NodeId) (st : Setting) (parts : List Part) (s : Subtree) (more : List Statement) (size : ℕ) → at id ≡ Some s → Are shows at parts more size →
      Are shows at (part id st ∷ parts) (of_subtree shows st (Some s) ++ more) (size_of (Some s) + size)
  one-more id st parts s more size e rest = record {
    known = (rw e refl, rest.known);
    same = ap (λ (o : Option Subtree). of_subtree shows st o ++ still_to_come shows at parts) e ∙ ap (λ (ys : List Statement). of_subtree shows st (Some s) ++ ys) rest.same;
    size = omega (arith, ap size_of e, rest.size);
  }

  -- a chain, or the one command of it
  chain-at : (st : Setting) (o : Option Subtree) (c : Chain) → bind o chain_of ≡ Some c → IsSome o × (of_subtree shows st o ≡ of_chain shows st c) × (size_of o ≤ chain_size c)
  chain-at st None c e = absurd (cc)
  chain-at st (Some (OfChains cs)) c e = absurd (cc)
  chain-at st (Some (OfChain d)) c e =
      let same : d ≡ c = cc in
      (refl, ap (of_chain shows st) same, omega (arith, ap chain_size same))
  chain-at st (Some (OfCommand d)) c e =
      let same : First d End ≡ c = cc in
      (refl, sym (append-nil (of_command shows st d)) ∙ ap (of_chain shows st) same, omega (arith, ap chain_size same))

  one-chain : (id : NodeId) (st : Setting) (parts : List Part) (c : Chain) (more : List Statement) (size : ℕ) → bind (at id) chain_of ≡ Some c → Are shows at parts more size →
      Are shows at (part id st ∷ parts) (of_chain shows st c ++ more) (chain_size c + size)
  one-chain id st parts c more size e rest =
      let h = chain-at st (at id) c e in
      record {
        known = (h.0, rest.known);
        same = ap (λ (xs : List Statement). xs ++ still_to_come shows at parts) h.1 ∙ ap (λ (ys : List Statement). of_chain shows st c ++ ys) rest.same;
        size = omega (arith, h.2, rest.size);
      }

  pub chains-are : (st : Setting) (first : Bool) (ids : List NodeId) (cs : Chains) → AreChains at ids cs →
      (size_at at (list_parts shows st first ids) < list_size cs) × AreKnown at (list_parts shows st first ids) × (still_to_come shows at (list_parts shows st first ids) ≡ of_list shows st first cs)
  chains-are st first [] (Last c) h = absurd h
  chains-are st first [] (More c cs) h = absurd h
  chains-are st first (id ∷ []) (Last c) h =
      let own = in_list shows st first true in
      let r = one-chain id own [] c [] 0 h.0 none-are in
      (omega (arith, r.size), r.known, r.same ∙ append-nil (of_chain shows own c))
  chains-are st first (id ∷ other ∷ ids) (Last c) h = absurd (let no : other ∷ ids ≡ [] = h.1 in cc)
  chains-are st first (id ∷ []) (More c (Last d)) h = absurd h.1
  chains-are st first (id ∷ []) (More c (More d cs)) h = absurd h.1
  chains-are st first (id ∷ other ∷ ids) (More c cs) h =
      let rest = chains-are st false (other ∷ ids) cs h.1 in
      let parts = list_parts shows st false (other ∷ ids) in
      let r = one-chain id (in_list shows st first false) parts c (of_list shows st false cs) (size_at at parts) h.0 (record { known = rest.1; same = rest.2; size = omega arith }) in
      (omega (arith, r.size, rest.0), r.known, r.same)

  ends : (ls : List link.Link) (links : Links) → AreLinks at ls links → is_nil ls ≡ is_end links
  ends [] End h = refl
  ends [] (Link o c links) h = absurd h
  ends (l ∷ ls) End h = absurd h
  ends (l ∷ ls) (Link o c links) h = refl

  operators : (l : link.Link) (ls : List link.Link) (links : Links) → AreLinks at ls links → operator_of (l ∷ ls) ≡ first_operator links
  operators l [] End h = refl
  operators l [] (Link o c links) h = absurd h
  operators l (m ∷ ls) End h = absurd h
  operators l (m ∷ ls) (Link o c links) h = h.0

  commands-are : (st : Setting) (operator : Option Operator) (ls : List link.Link) (links : Links) → AreLinks at ls links →
      Are shows at (link_parts st operator false ls) (of_links shows st operator links) (link_size links)
  commands-are st operator [] End h = none-are
  commands-are st operator [] (Link o c links) h = absurd h
  commands-are st operator (l ∷ ls) End h = absurd h
  commands-are st operator (l ∷ ls) (Link o c links) h =
      let own = in_chain st operator (Some o) false (is_end links) in
      let same : own ≡ in_chain st operator l.operator false (is_nil ls) = λ i. in_chain st operator (sym h.0 i) false (sym (ends ls links h.2) i) in
      let rest = link_parts st operator false ls in
      let r = one-more l.command own rest (OfCommand c) (of_links shows st operator links) (link_size links) h.1 (commands-are st operator ls links h.2) in
      subst (λ (s : Setting). Are shows at (part l.command s ∷ rest) (of_links shows st operator (Link o c links)) (link_size (Link o c links))) same r

  chain-with : (st : Setting) (l : link.Link) (ls : List link.Link) (c : Command) (links : Links) → l.operator ≡ None → at l.command ≡ Some (OfCommand c) → AreLinks at ls links →
      Are shows at (link_parts st (first_operator links) true (l ∷ ls)) (of_chain shows st (First c links)) (command_size c + link_size links)
  chain-with st l ls c links none e h =
      let operator = first_operator links in
      let own = in_chain st operator None true (is_end links) in
      let same : own ≡ in_chain st operator l.operator true (is_nil ls) = λ i. in_chain st operator (sym none i) true (sym (ends ls links h) i) in
      let rest = link_parts st operator false ls in
      let r = one-more l.command own rest (OfCommand c) (of_links shows st operator links) (link_size links) e (commands-are st operator ls links h) in
      subst (λ (s : Setting). Are shows at (part l.command s ∷ rest) (of_chain shows st (First c links)) (command_size c + link_size links)) same r

  pub chain-is : (st : Setting) (ls : List link.Link) (c : Chain) → IsChain at ls c → Are shows at (link_parts st (operator_of ls) true ls) (of_chain shows st c) (size_at at (link_parts st (operator_of ls) true ls))
      × (size_at at (link_parts st (operator_of ls) true ls) < chain_size c)
  chain-is st [] (First c links) h = absurd h
  chain-is st (l ∷ ls) (First c links) h =
      let r = subst (λ (o : Option Operator). Are shows at (link_parts st o true (l ∷ ls)) (of_chain shows st (First c links)) (command_size c + link_size links)) (sym (operators l ls links h.2))
      (chain-with st l ls c links h.0 h.1 h.2) in
      (record { known = r.known; same = r.same; size = omega arith }, omega (arith, r.size))

  otherwise-are : (st : Setting) (id : NodeId) (d : Chains) → at id ≡ Some (OfChains d) → Are shows at (otherwise_part st (Some id)) (of_list shows (plain st.asked) true d) (list_size d)
  otherwise-are st id d e =
      let r = one-more id (plain st.asked) [] (OfChains d) [] 0 e none-are in
      record { known = r.known; same = r.same ∙ append-nil (of_list shows (plain st.asked) true d); size = omega (arith, r.size) }

  -- a branch before others; `first`: that of `if`
  one-branch : (st : Setting) (bare first : Bool) (x : branch.Branch) (parts : List Part) (c d : Chains) (more : List Statement) (size : ℕ) → at x.condition ≡ Some (OfChains c) → at x.body ≡ Some (OfChains d) →
      Are shows at parts more size →
      Are shows at (part x.condition (in_if st bare first) ∷ part x.body (plain st.asked) ∷ parts) (of_list shows (in_if st bare first) true c ++ of_list shows (plain st.asked) true d ++ more) (list_size c + (list_size d + size))
  one-branch st bare first x parts c d more size e f rest =
      let r = one-more x.condition (in_if st bare first) (part x.body (plain st.asked) ∷ parts) (OfChains c) (of_list shows (plain st.asked) true d ++ more) (list_size d + size) e
      (one-more x.body (plain st.asked) parts (OfChains d) more size f rest) in
      record { known = r.known; same = r.same ∙ sym (append_assoc (of_list shows (in_if st bare first) true c) (of_list shows (plain st.asked) true d) more); size = r.size }

  branches-are : (st : Setting) (bare : Bool) (bs : List branch.Branch) (o : Option NodeId) (b : Branches) → AreBranches at bs o b →
      Are shows at (branch_parts st bare false bs ++ otherwise_part st o) (of_branches shows st bare b) (branch_size b)
  branches-are st bare [] None (Elif c d b) h = absurd h
  branches-are st bare [] None (Else d) h = absurd h
  branches-are st bare [] None Fi h = none-are
  branches-are st bare [] (Some id) (Elif c d b) h = absurd h
  branches-are st bare [] (Some id) (Else d) h = otherwise-are st id d h
  branches-are st bare [] (Some id) Fi h = absurd h
  branches-are st bare (x ∷ bs) o (Elif c d b) h =
      one-branch st bare false x (branch_parts st bare false bs ++ otherwise_part st o) c d (of_branches shows st bare b) (branch_size b) h.0 h.1 (branches-are st bare bs o b h.2)
  branches-are st bare (x ∷ bs) o (Else d) h = absurd h
  branches-are st bare (x ∷ bs) o Fi h = absurd h

  bare-is : (bs : List branch.Branch) (o : Option NodeId) (b : Branches) → AreBranches at bs o b → is_none o ≡ is_bare b
  bare-is [] None (Elif c d b) h = absurd h
  bare-is [] None (Else d) h = absurd h
  bare-is [] None Fi h = refl
  bare-is [] (Some id) (Elif c d b) h = absurd h
  bare-is [] (Some id) (Else d) h = refl
  bare-is [] (Some id) Fi h = absurd h
  bare-is (x ∷ bs) o (Elif c d b) h = bare-is bs o b h.2
  bare-is (x ∷ bs) o (Else d) h = absurd h
  bare-is (x ∷ bs) o Fi h = absurd h

  pub if-is : (st : Setting) (bs : List branch.Branch) (o : Option NodeId) (c d : Chains) (b : Branches) → AreBranches at bs o (Elif c d b) →
      Are shows at (if_parts st true bs o) (of_command shows st (If c d b)) (branch_size (Elif c d b))
  if-is st [] None c d b h = absurd h
  if-is st [] (Some id) c d b h = absurd h
  if-is st (x ∷ bs) o c d b h =
      let with_bare = λ (bare : Bool). Are shows at (branch_parts st bare true (x ∷ bs) ++ otherwise_part st o) (of_command shows st (If c d b)) (branch_size (Elif c d b)) in
      let bare = is_bare b in
      subst with_bare (sym (bare-is (x ∷ bs) o (Elif c d b) h))
      (one-branch st bare true x (branch_parts st bare false bs ++ otherwise_part st o) c d (of_branches shows st bare b) (branch_size b) h.0 h.1 (branches-are st bare bs o b h.2))

  pub loop-is : (st : Setting) (c d : Chains) (condition body : NodeId) → at condition ≡ Some (OfChains c) → at body ≡ Some (OfChains d) →
      Are shows at (part condition (in_loop st) ∷ part body (plain shows) ∷ []) (of_list shows (in_loop st) true c ++ of_list shows (plain shows) true d) (list_size c + list_size d)
  loop-is st c d condition body e f =
      let r = one-more condition (in_loop st) (part body (plain shows) ∷ []) (OfChains c) (of_list shows (plain shows) true d ++ []) (list_size d + 0) e (one-more body (plain shows) [] (OfChains d) [] 0 f none-are) in
      record { known = r.known; same = r.same ∙ ap (λ (ys : List Statement). of_list shows (in_loop st) true c ++ ys) (append-nil (of_list shows (plain shows) true d)); size = omega (arith, r.size) }

  pub body-is : (st : Setting) (d : Chains) (body : NodeId) → at body ≡ Some (OfChains d) → Are shows at (part body st ∷ []) (of_list shows st true d) (list_size d)
  body-is st d body f =
      let r = one-more body st [] (OfChains d) [] 0 f none-are in
      record { known = r.known; same = r.same ∙ append-nil (of_list shows st true d); size = omega (arith, r.size) }

  -- parts and then others
  pub known-append : (xs ys : List Part) → AreKnown at xs → AreKnown at ys → AreKnown at (xs ++ ys)
  known-append [] ys h k = k
  known-append (x ∷ xs) ys h k = (h.0, known-append xs ys h.1 k)

  pub size-append : (xs ys : List Part) → size_at at (xs ++ ys) ≡ size_at at xs + size_at at ys
  size-append [] ys = omega arith
  size-append (x ∷ xs) ys = omega (arith, size-append xs ys)

  -- the parts that a part leaves to gather, by the statements of its own parts
  pub none-first : (text : Written) (p : Part) (parts : List Part) (s : Subtree) (most : ℕ) → at p.id ≡ Some s → Are shows at parts (of_subtree shows p.setting (Some s)) most → most < size_of (Some s) →
      HasParts text shows at p [] parts
  none-first text p parts s most e are less = record {
    known = are.known;
    same = ap (of_subtree shows p.setting) e ∙ sym are.same;
    told = refl;
    smaller = omega (arith, are.size, less, ap size_of e);
  }

  pub list-parts : (text : Written) (p : Part) (ids : List NodeId) (cs : Chains) → at p.id ≡ Some (OfChains cs) → AreChains at ids cs → HasParts text shows at p [] (list_parts shows p.setting true ids)
  list-parts text p ids cs e h =
      let r = chains-are p.setting true ids cs h in
      let parts = list_parts shows p.setting true ids in
      none-first text p parts (OfChains cs) (size_at at parts) e (record { known = r.1; same = r.2; size = omega arith }) r.0

  pub chain-parts : (text : Written) (p : Part) (ls : List link.Link) (c : Chain) → at p.id ≡ Some (OfChain c) → IsChain at ls c → HasParts text shows at p [] (link_parts p.setting (operator_of ls) true ls)
  chain-parts text p ls c e h =
      let r = chain-is p.setting ls c h in
      let parts = link_parts p.setting (operator_of ls) true ls in
      none-first text p parts (OfChain c) (size_at at parts) e r.0 r.1

  pub branches-parts : (text : Written) (p : Part) (bs : List branch.Branch) (o : Option NodeId) (c d : Chains) (b : Branches) → at p.id ≡ Some (OfCommand (If c d b)) → AreBranches at bs o (Elif c d b) →
      HasParts text shows at p [] (if_parts p.setting true bs o)
  branches-parts text p bs o c d b e h =
      none-first text p (if_parts p.setting true bs o) (OfCommand (If c d b)) (branch_size (Elif c d b)) e (if-is p.setting bs o c d b h) (omega arith)

  pub while-parts : (text : Written) (p : Part) (condition body : NodeId) (c d : Chains) → at p.id ≡ Some (OfCommand (While c d)) → at condition ≡ Some (OfChains c) → at body ≡ Some (OfChains d) →
      HasParts text shows at p [] (part condition (in_loop p.setting) ∷ part body (plain shows) ∷ [])
  while-parts text p condition body c d e f g =
      none-first text p (part condition (in_loop p.setting) ∷ part body (plain shows) ∷ []) (OfCommand (While c d)) (list_size c + list_size d) e (loop-is p.setting c d condition body f g) (omega arith)

  pub until-parts : (text : Written) (p : Part) (condition body : NodeId) (c d : Chains) → at p.id ≡ Some (OfCommand (Until c d)) → at condition ≡ Some (OfChains c) → at body ≡ Some (OfChains d) →
      HasParts text shows at p [] (part condition (in_loop p.setting) ∷ part body (plain shows) ∷ [])
  until-parts text p condition body c d e f g =
      none-first text p (part condition (in_loop p.setting) ∷ part body (plain shows) ∷ []) (OfCommand (Until c d)) (list_size c + list_size d) e (loop-is p.setting c d condition body f g) (omega arith)

  -- an item, and then the statements of these parts
  one-first : (text : Written) (p : Part) (it : Item) (st : Statement) (coming left : List Word) (parts : List Part) (c : Command) (rest : List Statement) (most : ℕ) → at p.id ≡ Some (OfCommand c) →
      of_command shows p.setting c ≡ st ∷ rest → Takes text coming left it st → Are shows at parts rest most → most < command_size c → HasParts text shows at p (it ∷ []) parts
  one-first text p it st coming left parts c rest most e f takes are less = record {
    known = are.known;
    same = ap (of_subtree shows p.setting) e ∙ f ∙ (λ i. sym takes.same i ∷ sym are.same i);
    told = ap (map (leaf_in text)) (append-nil (item_words it)) ∙ takes.told ∙ ap statement_leaves (sym takes.same) ∙ sym (append-nil (statement_leaves (statement_of text it)));
    smaller = omega (arith, are.size, less, ap size_of e);
  }

  pub for-parts : (text : Written) (p : Part) (body : NodeId) (it : Item) (name : List ℕ) (words : List (List Atom)) (d : Chains) (coming left : List Word) → at p.id ≡ Some (OfCommand (For name words d)) →
      at body ≡ Some (OfChains d) → Takes text coming left it (Binds p.setting name words) → HasParts text shows at p (it ∷ []) (part body (in_turn shows p.setting) ∷ [])
  for-parts text p body it name words d coming left e f takes =
      let own = in_turn shows p.setting in
      one-first text p it (Binds p.setting name words) coming left (part body own ∷ []) (For name words d) (of_list shows own true d) (list_size d) e refl takes (body-is own d body f) (omega arith)

  pub assign-parts : (text : Written) (p : Part) (it : Item) (name : List ℕ) (value : List Atom) (coming left : List Word) → at p.id ≡ Some (OfCommand (Assign name value)) → Takes text coming left it (Assigns p.setting name value) →
      HasParts text shows at p (it ∷ []) []
  assign-parts text p it name value coming left e takes = one-first text p it (Assigns p.setting name value) coming left [] (Assign name value) [] 0 e refl takes none-are (omega arith)

  pub simple-parts : (text : Written) (p : Part) (it : Item) (words : List (List Atom)) (coming left : List Word) → at p.id ≡ Some (OfCommand (Simple words)) → Takes text coming left it (Calls p.setting words) →
      HasParts text shows at p (it ∷ []) []
  simple-parts text p it words coming left e takes = one-first text p it (Calls p.setting words) coming left [] (Simple words) [] 0 e refl takes none-are (omega arith)

-- what was gathered of a part
abbrev pub Gathers : Written → (shows : Bool) → At → Part → List Part → List Item → List Word → List Part → List Item → List Word → Type 0
Gathers text shows at p waiting items coming new new_items new_coming =
    (more : List Item) × (parts : List Part) × (new ≡ parts ++ waiting) × (new_items ≡ items ++ more) × (coming ≡ flat_map item_words more ++ new_coming) × HasParts text shows at p more parts

pub gather-nodes : {E : Type 0} (r : Result (Unit {0}) E) (text : Written) (shows : Bool) (at : At) (p : Part) (parts waiting new : List Part) (items : List Item) (coming : List Word) → HasParts text shows at p [] parts →
    OnOk r (new ≡ parts ++ waiting) → OnOk r (Gathers text shows at p waiting items coming new items coming)
gather-nodes (Ok u) text shows at p parts waiting new items coming has put = ([], parts, put, sym (append-nil items), refl, has)
gather-nodes (Err e) text shows at p parts waiting new items coming has put = put

pub gather-one : {E : Type 0} (r : Result (Unit {0}) E) (text : Written) (shows : Bool) (at : At) (p : Part) (it : Item) (parts waiting new : List Part) (items new_items : List Item) (coming new_coming : List Word) → HasParts text shows at p (it ∷ []) parts →
    new ≡ parts ++ waiting → coming ≡ item_words it ++ new_coming → OnOk r (new_items ≡ items ++ it ∷ []) → OnOk r (Gathers text shows at p waiting items coming new new_items new_coming)
gather-one (Ok u) text shows at p it parts waiting new items new_items coming new_coming has put taken added =
    (it ∷ [], parts, put, added, taken ∙ ap (λ (ws : List Word). ws ++ new_coming) (sym (append-nil (item_words it))), has)
gather-one (Err e) text shows at p it parts waiting new items new_items coming new_coming has put taken added = added

-- ---- the loop

-- each part that is still to come is known, these are what is missing of a script's statements, and the words that are
-- still to come are theirs
pub record StillGathers (text : Written) (shows : Bool) (at : At) (all : List Statement) (words : List Word) (items : List Item) (coming : List Word) (waiting : List Part) : Type 0 where
  pub known : AreKnown at waiting
  pub same : map (statement_of text) items ++ still_to_come shows at waiting ≡ all
  pub taken : flat_map item_words items ++ coming ≡ words
  pub told : map (leaf_in text) coming ≡ flat_map statement_leaves (still_to_come shows at waiting)

module _ (text : Written) (shows : Bool) (at : At) where
  -- the words of a part, before those of others
  pub begins-with : (coming : List Word) (p : Part) (rest : List Part) → map (leaf_in text) coming ≡ flat_map statement_leaves (still_to_come shows at (p ∷ rest)) → BeginWith text coming (of_subtree shows p.setting (at p.id))
  begins-with coming p rest told =
      (flat_map statement_leaves (still_to_come shows at rest), told ∙ flat_map-append statement_leaves (of_subtree shows p.setting (at p.id)) (still_to_come shows at rest))

  still-append : (parts rest : List Part) → still_to_come shows at (parts ++ rest) ≡ still_to_come shows at parts ++ still_to_come shows at rest
  still-append parts rest = flat_map-append (λ (q : Part). of_subtree shows q.setting (at q.id)) parts rest

  -- what a part and the parts below it are still to give, once its items are gathered
  still-next : (p : Part) (rest parts new : List Part) (more : List Item) → HasParts text shows at p more parts → new ≡ parts ++ rest →
      still_to_come shows at (p ∷ rest) ≡ map (statement_of text) more ++ still_to_come shows at new
  still-next p rest parts new more has put =
      ap (λ (ys : List Statement). ys ++ still_to_come shows at rest) has.same
      ∙ append_assoc (map (statement_of text) more) (still_to_come shows at parts) (still_to_come shows at rest)
      ∙ ap (λ (ys : List Statement). map (statement_of text) more ++ ys) (sym (still-append parts rest) ∙ ap (still_to_come shows at) (sym put))

  told-next : (p : Part) (rest parts new : List Part) (more : List Item) (coming new_coming : List Word) → HasParts text shows at p more parts → new ≡ parts ++ rest → coming ≡ flat_map item_words more ++ new_coming →
      map (leaf_in text) coming ≡ flat_map statement_leaves (still_to_come shows at (p ∷ rest)) → map (leaf_in text) new_coming ≡ flat_map statement_leaves (still_to_come shows at new)
  told-next p rest parts new more coming new_coming has put taken told =
      append_cancel_left (map (leaf_in text) (flat_map item_words more)) (map (leaf_in text) new_coming) (flat_map statement_leaves (still_to_come shows at new))
      (sym (map-append (leaf_in text) (flat_map item_words more) new_coming)
      ∙ ap (map (leaf_in text)) (sym taken)
      ∙ told
      ∙ ap (flat_map statement_leaves) (still-next p rest parts new more has put)
      ∙ flat_map-append statement_leaves (map (statement_of text) more) (still_to_come shows at new)
      ∙ ap (λ (ls : List Leaf). ls ++ flat_map statement_leaves (still_to_come shows at new)) (sym has.told))

  module _ (all : List Statement) (words : List Word) where
    pub gather-next : (items new_items : List Item) (coming new_coming : List Word) (p : Part) (rest new : List Part) → StillGathers text shows at all words items coming (p ∷ rest) →
        Gathers text shows at p rest items coming new new_items new_coming → StillGathers text shows at all words new_items new_coming new
    gather-next items new_items coming new_coming p rest new so_far g =
        let st : Item → Statement = statement_of text in
        record {
          known = subst (AreKnown at) (sym g.2) (known-append shows at g.1 rest g.5.known so_far.known.1);
          same =
              ap (λ (xs : List Item). map st xs ++ still_to_come shows at new) g.3
              ∙ ap (λ (ys : List Statement). ys ++ still_to_come shows at new) (map-append st items g.0)
              ∙ append_assoc (map st items) (map st g.0) (still_to_come shows at new)
              ∙ ap (λ (ys : List Statement). map st items ++ ys) (sym (still-next p rest g.1 new g.0 g.5 g.2))
              ∙ so_far.same;
          taken =
              ap (λ (xs : List Item). flat_map item_words xs ++ new_coming) g.3
              ∙ ap (λ (ws : List Word). ws ++ new_coming) (flat_map-append item_words items g.0)
              ∙ append_assoc (flat_map item_words items) (flat_map item_words g.0) new_coming
              ∙ ap (λ (ws : List Word). flat_map item_words items ++ ws) (sym g.4)
              ∙ so_far.taken;
          told = told-next p rest g.1 new g.0 coming new_coming g.5 g.2 g.4 so_far.told;
        }

-- the loop begins with the root, if there is one
module _ (text : Written) (shows : Bool) (at : At) (asked : Bool) (tree : Option Chains) (words : List Word) (told : map (leaf_in text) words ≡ script_leaves tree) where
  module _ (items : List Item) (coming : List Word) (waiting : List Part) (e : items ≡ []) (f : coming ≡ words) where
    begun : (parts : List Part) → waiting ≡ parts → AreKnown at parts → still_to_come shows at parts ≡ of_script shows asked tree → StillGathers text shows at (of_script shows asked tree) words items coming waiting
    begun parts g known same = record {
      known = subst (AreKnown at) (sym g) known;
      same = (λ i. map (statement_of text) (e i) ++ still_to_come shows at (g i)) ∙ same;
      taken = λ i. flat_map item_words (e i) ++ f i;
      told = ap (map (leaf_in text)) f ∙ told ∙ sym (script-leaves shows asked tree) ∙ ap (flat_map statement_leaves) (sym (ap (still_to_come shows at) g ∙ same));
    }

    pub begun-none : waiting ≡ [] → tree ≡ None → StillGathers text shows at (of_script shows asked tree) words items coming waiting
    begun-none g h = begun [] g tt (ap (of_script shows asked) (sym h))

    pub begun-at : (id : NodeId) (cs : Chains) → waiting ≡ part id (beginning asked) ∷ [] → at id ≡ Some (OfChains cs) → tree ≡ Some cs → StillGathers text shows at (of_script shows asked tree) words items coming waiting
    begun-at id cs g h k =
        begun (part id (beginning asked) ∷ []) g (rw h refl, tt)
        (append-nil (of_subtree shows (beginning asked) (at id)) ∙ ap (of_subtree shows (beginning asked)) h ∙ ap (of_script shows asked) (sym k))

pub gather-smaller : (text : Written) (shows : Bool) (at : At) (items new_items : List Item) (coming new_coming : List Word) (p : Part) (rest new : List Part) → Gathers text shows at p rest items coming new new_items new_coming →
    size_at at new < size_at at (p ∷ rest)
gather-smaller text shows at items new_items coming new_coming p rest new g = omega (arith, g.5.smaller, ap (size_at at) g.2, size-append shows at g.1 rest)
