-- A list and a script: their loops over chains, and their nodes.
use Rattle.std.proofs.Common.{◌≡◌, ℕ, ◌<◌, ◌≤◌, ◌&&◌, Bool, Result, refl, true, false, List, [], ◌∷◌, ◌++◌, length, sym, ◌∙◌, ap, subst, arith, Option, Some, None}
use Rattle.hush_words.specs.Parts.{Written}
use Rattle.hush_words.specs.Tokens.{Token}
use Rattle.hush_syntax.specs.declared.nodes.Bodies.{Bodies}
use Rattle.hush_syntax.specs.declared.stored.Block.{Block}
use Rattle.hush_syntax.specs.declared.table.Builder.{Builder}
use Rattle.hush_syntax.specs.declared.nodes.NodeId.{NodeId}
use Rattle.hush_syntax.specs.declared.stored.Stored.{Stored}
use Rattle.hush_syntax.specs.declared.stored.Stored.TheVariants as node
use Rattle.hush_syntax.specs.declared.refusal.Refusal.{Refusal}
use Rattle.hush_syntax.specs.Grammar.{Command, Simple, Chain, First, End, Chains, is_separator, begins, nothing, nest_limit}
use Rattle.hush_syntax.specs.Nodes.{Subtree, OfChains, OfCommand, chain_of, RootAt, ChainAt}
use Rattle.hush_syntax.specs.Stored.{Members, built, block_of}
use Rattle.hush_syntax.specs.Builders.{Waiting, members_of, followed, waiting, add_chains, Adds, Put, SettlesChains, later, Grows, ChainsAt, CommandAt, Builds}
use Rattle.hush_syntax.specs.Reading.{bind, skip, is_end, is, separators, closes, list, chain, command, script_in, inner, may_be_empty}
use Rattle.hush_syntax.proofs.FromMembers.{chains_from}
use Rattle.hush_syntax.proofs.Fronts.{skip-twice}
use Rattle.hush_syntax.proofs.Readers.{same_pair}
use Rattle.hush_syntax.proofs.Shorter.{chain-shorter, separators-shorter, skip-begun}
use Rattle.hush_syntax.proofs.ListLoop.{ListSoFar, list-starts, list-ends, list-goes_on}
use Rattle.hush_syntax.proofs.ScriptLoop.{script-empty, ScriptSoFar, script-starts, script-ends, script-unseparated, script-goes_on}
use Rattle.hush_syntax.proofs.Building.{Each, mark-within, kept, chains-up, chains-none, settled-chains, SoFar, Keeps, still-are, push-grown, push-are, push-waits, so_far-push, puts, grows-none, grows-both, chain-longer, list-at_last}
use Rattle.hush_syntax.proofs.Calls.{Found}

keeps-chain : Keeps ChainAt
keeps-chain at more e x id h = chain-longer at more e x id h

-- a list that is whole, with its last chain
abbrev pub WholeList : Written → List Chain → Builder → Builder → Block → Type 0
WholeList text cs old settled b =
    (waiting settled ≡ waiting old) × Grows old.table settled.table ×
    ((more : Members) → built (later text settled.table more) text (followed (members_of settled.table) more) (node.List b) ≡ Some (OfChains (chains_from cs)))

list-whole : (text : Written) (Goes : List Chain → Type 0) (old mid after pushed settled : Builder) (b : Block) (id : NodeId) (c : Chain) (mark : ℕ) → (s : SoFar Goes ChainAt add_chains text old mid) →
    Grows mid.table after.table → ((more : Members) → ChainAt (later text after.table more) c id) → waiting after ≡ waiting mid → Adds add_chains after pushed id → mark ≡ length old.waiting.chains.items →
    SettlesChains pushed settled mark b → WholeList text (s.xs ++ c ∷ []) old settled b
list-whole text Goes old mid after pushed settled b id c mark s grows is same add at h =
    let ys : List NodeId = s.ys ++ id ∷ [] in
    let k = settled-chains old pushed settled ys mark b (push-waits add_chains chains-up old mid after pushed s.ys id s.waits same add) at h in (
      k.0,
      grows-both old.table pushed.table settled.table (push-grown old mid after pushed s.grown grows add.0) k.1,
      λ more.
          let all = subst (λ l. Each (ChainAt (later text settled.table more)) (s.xs ++ c ∷ []) l) (sym (k.2 more))
          (still-are ChainAt keeps-chain text pushed.table settled.table (s.xs ++ c ∷ []) ys k.1 (push-are ChainAt keeps-chain text mid after pushed s.xs s.ys c id s.are grows is add.0) more) in
          let h = list-at_last (later text settled.table more) s.xs c (block_of b (followed (members_of settled.table) more).chains) all in
          rw h,
    )

-- the mark of a list is within what waits once one more chain does
pub pushed-within : (old mid after pushed : Builder) (ys : List NodeId) (id : NodeId) (mark : ℕ) → waiting mid ≡ add_chains (waiting old) ys → waiting after ≡ waiting mid → Adds add_chains after pushed id →
    mark ≡ length old.waiting.chains.items → mark ≤ length pushed.waiting.chains.items
pushed-within old mid after pushed ys id mark e f add at =
    let whole : waiting pushed ≡ add_chains (waiting old) (ys ++ id ∷ []) = add.1 ∙ ap (λ w. add_chains w (id ∷ [])) (f ∙ e) ∙ chains-up (waiting old) ys (id ∷ []) in
    mark-within old.waiting.chains.items (ys ++ id ∷ []) pushed.waiting.chains.items mark (ap (λ (w : Waiting). w.chains) whole) at

module _ (text : Written) (bodies : Bodies) (room : ℕ) where
  -- a list
  pub list-smaller : (now m r : List Token) (c : Chain) (u : Unit {0}) → chain (command bodies room) now ≡ Some (c, m) → separators m ≡ Some (u, r) → length r < length now
  list-smaller now m r c u read seps =
      let shorter = chain-shorter bodies room now m c read in let gone = separators-shorter m r u seps in omega arith

  abbrev pub ListGoes : Option (Chains × List Token) → List Token → List Chain → Type 0
  ListGoes found now cs = ListSoFar bodies room found cs now

  pub list-init : (ts now : List Token) (t : Builder) → now ≡ skip is_separator ts → SoFar (ListGoes (list (command bodies room) ts) now) ChainAt add_chains text t t
  list-init ts now t e = record {
    xs = [];
    ys = [];
    goes = subst (λ x. ListSoFar bodies room (list (command bodies room) ts) [] x) (sym e) (list-starts bodies room ts);
    grown = grows-none t.table;
    are = λ more. tt;
    waits = sym (chains-none (waiting t));
  }

  pub list-preserved : (found : Option (Chains × List Token)) (old mid after new : Builder) (id : NodeId) (now m r : List Token) → SoFar (ListGoes found now) ChainAt add_chains text old mid →
      Found ChainAt text (chain (command bodies room) now) mid after m id → separators m ≡ Some (tt, r) → closes r ≡ false → Adds add_chains after new id → SoFar (ListGoes found r) ChainAt add_chains text old new
  list-preserved found old mid after new id now m r s f seps still pushed =
      so_far-push (ListGoes found now) (ListGoes found r) ChainAt add_chains keeps-chain chains-up text old mid after new f.0 id s f.2 f.3 f.4 pushed
      (list-goes_on bodies room found s.xs f.0 now m r s.goes f.1 seps still)

  pub list-built : (found : Option (Chains × List Token)) (old mid after pushed settled new : Builder) (b : Block) (id list_id : NodeId) (mark : ℕ) (now m r : List Token) → SoFar (ListGoes found now) ChainAt add_chains text old mid →
      Found ChainAt text (chain (command bodies room) now) mid after m id → separators m ≡ Some (tt, r) → closes r ≡ true → Adds add_chains after pushed id → mark ≡ length old.waiting.chains.items →
      SettlesChains pushed settled mark b → Put settled new (node.List b) list_id → Found ChainsAt text found old new r list_id
  list-built found old mid after pushed settled new b id list_id mark now m r s f seps closed add at h p =
      let all = list-whole text (ListGoes found now) old mid after pushed settled b id f.0 mark s f.2 f.3 f.4 add at h in
      puts OfChains text old settled new (node.List b) list_id (chains_from (s.xs ++ f.0 ∷ [])) found r
      (list-ends bodies room found s.xs f.0 now m r s.goes f.1 seps closed)
      all.1 all.0 all.2 p

-- the body without a chain
pub nothing-built : (text : Written) (ts : List Token) (old one pushed settled new : Builder) (none b : Block) (id list_id : NodeId) (mark : ℕ) → none ≡ record { first = 0; len = 0 } → Put old one (node.Simple none) id → Adds add_chains one pushed id → mark ≡ length old.waiting.chains.items →
    SettlesChains pushed settled mark b → Put settled new (node.List b) list_id → Found ChainsAt text (Some (nothing, ts)) old new ts list_id
nothing-built text ts old one pushed settled new none b id list_id mark is_none p add at h q =
    let f : Found CommandAt text (Some (Simple [], ts)) old one ts id = puts OfCommand text old old one (node.Simple none) id (Simple []) (Some (Simple [], ts)) ts refl (grows-none old.table) refl (λ more. rw is_none) p in
    let same = same_pair (Simple []) f.0 ts ts f.1 in
    let s : SoFar (λ _. Unit {0}) ChainAt add_chains text old old = record { xs = []; ys = []; goes = tt; grown = grows-none old.table; are = λ more. tt; waits = sym (chains-none (waiting old)) } in
    let all : WholeList text (First (Simple []) End ∷ []) old settled b =
    list-whole text (λ _. Unit {0}) old old one pushed settled b id (First (Simple []) End) mark s f.2
    (λ more. ap (λ (o : Option Subtree). bind o chain_of) (f.3 more) ∙ ap (λ (c : Command). let o : Option Chain = Some (First c End) in o) (sym same.0))
    f.4 add at h in
    puts OfChains text old settled new (node.List b) list_id nothing (Some (nothing, ts)) ts refl all.1 all.0 all.2 q

pub nothing-within : (old one pushed : Builder) (n : Stored) (id : NodeId) (mark : ℕ) → Put old one n id → Adds add_chains one pushed id → mark ≡ length old.waiting.chains.items → mark ≤ length pushed.waiting.chains.items
nothing-within old one pushed n id mark p add at = pushed-within old old one pushed [] id mark (sym (chains-none (waiting old))) p.3 add at

-- a body, after the separators before it
module _ (text : Written) (bodies : Bodies) (room : ℕ) (ts now : List Token) (e : now ≡ skip is_separator ts) where
  abbrev ends_here : List Token → Bool
  ends_here l = may_be_empty bodies && closes l

  inner-same : ends_here (skip is_separator ts) ≡ false → inner bodies (command bodies room) ts ≡ list (command bodies room) (skip is_separator ts)
  inner-same h = rw (h, skip-twice is_separator ts)

  inner-is : ends_here (skip is_separator ts) ≡ true → inner bodies (command bodies room) ts ≡ Some (nothing, skip is_separator ts)
  inner-is h = rw h

  pub inner-empty : (old new : Builder) (id : NodeId) → ends_here now ≡ true → Found ChainsAt text (Some (nothing, now)) old new now id → Found ChainsAt text (inner bodies (command bodies room) ts) old new now id
  inner-empty old new id h f =
      let found : inner bodies (command bodies room) ts ≡ Some (nothing, now) =
      inner-is (ap ends_here (sym e) ∙ h) ∙ ap (λ (x : List Token). let o : Option (Chains × List Token) = Some (nothing, x) in o) (sym e) in
      (f.0, found ∙ f.1, f.2, f.3, f.4)

  pub inner-listed : (old new : Builder) (left : List Token) (r : Result NodeId Refusal) → ends_here now ≡ false → Builds ChainsAt text old new (list (command bodies room) now) left r → Builds ChainsAt text old new (inner bodies (command bodies room) ts) left r
  inner-listed old new left r h b =
      subst (λ x. Builds ChainsAt text old new x left r) (sym (inner-same (ap ends_here (sym e) ∙ h) ∙ ap (list (command bodies room)) (sym e))) b

-- a script
module _ (text : Written) (bodies : Bodies) where
  pub script-smaller : (now m r : List Token) (c : Chain) → chain (command bodies nest_limit) now ≡ Some (c, m) → begins is_separator m ≡ true → r ≡ skip is_separator m → length r < length now
  script-smaller now m r c read begun skipped =
      let shorter = chain-shorter bodies nest_limit now m c read in let gone = skip-begun is_separator m begun in omega (arith, ap length skipped)

  abbrev pub ScriptGoes : Option (Option Chains) → List Token → List Chain → Type 0
  ScriptGoes found now cs = ScriptSoFar bodies found cs now

  pub script-none_there : (ts now : List Token) (t : Builder) → now ≡ skip is_separator ts → is_end now ≡ true → (x : Option Chains) × (script_in bodies ts ≡ Some x) × ((more : Members) → RootAt (later text t.table more) x None)
  script-none_there ts now t e end = (None, script-empty bodies ts (ap is_end (sym e) ∙ end), λ more. tt)

  pub script-init : (ts now : List Token) (t : Builder) → now ≡ skip is_separator ts → is_end now ≡ false → SoFar (ScriptGoes (script_in bodies ts) now) ChainAt add_chains text t t
  script-init ts now t e more = record {
    xs = [];
    ys = [];
    goes = subst (λ x. ScriptSoFar bodies (script_in bodies ts) [] x) (sym e) (script-starts bodies ts (ap is_end (sym e) ∙ more));
    grown = grows-none t.table;
    are = λ more. tt;
    waits = sym (chains-none (waiting t));
  }

  pub script-preserved : (found : Option (Option Chains)) (old mid after new : Builder) (id : NodeId) (now m r : List Token) → SoFar (ScriptGoes found now) ChainAt add_chains text old mid →
      Found ChainAt text (chain (command bodies nest_limit) now) mid after m id → is_end r ≡ false → begins is_separator m ≡ true → r ≡ skip is_separator m → Adds add_chains after new id →
      SoFar (ScriptGoes found r) ChainAt add_chains text old new
  script-preserved found old mid after new id now m r s f more begun skipped pushed =
      so_far-push (ScriptGoes found now) (ScriptGoes found r) ChainAt add_chains keeps-chain chains-up text old mid after new f.0 id s f.2 f.3 f.4 pushed
      (subst (λ x. ScriptSoFar bodies found (s.xs ++ f.0 ∷ []) x) (sym skipped) (script-goes_on bodies found s.xs f.0 now m s.goes f.1 (ap is_end (sym skipped) ∙ more) begun))

  pub script-refused : (found : Option (Option Chains)) (old mid new : Builder) (id : NodeId) (now m r : List Token) → SoFar (ScriptGoes found now) ChainAt add_chains text old mid →
      Found ChainAt text (chain (command bodies nest_limit) now) mid new m id → is_end r ≡ false → begins is_separator m ≡ false → r ≡ skip is_separator m → found ≡ None
  script-refused found old mid new id now m r s f more begun skipped =
      script-unseparated bodies found s.xs f.0 now m s.goes f.1 (ap is_end (sym skipped) ∙ more) begun

  pub script-built : (found : Option (Option Chains)) (old mid after pushed settled new : Builder) (b : Block) (id list_id : NodeId) (mark : ℕ) (now m r : List Token) → SoFar (ScriptGoes found now) ChainAt add_chains text old mid →
      Found ChainAt text (chain (command bodies nest_limit) now) mid after m id → is_end r ≡ true → r ≡ skip is_separator m → Adds add_chains after pushed id → mark ≡ length old.waiting.chains.items →
      SettlesChains pushed settled mark b → Put settled new (node.List b) list_id → (x : Option Chains) × (found ≡ Some x) × ((more : Members) → RootAt (later text new.table more) x (Some list_id))
  script-built found old mid after pushed settled new b id list_id mark now m r s f done skipped add at h p =
      let all = list-whole text (ScriptGoes found now) old mid after pushed settled b id f.0 mark s f.2 f.3 f.4 add at h in (
        Some (chains_from (s.xs ++ f.0 ∷ [])),
        script-ends bodies found s.xs f.0 now m s.goes f.1 (ap is_end (sym skipped) ∙ done),
        kept text settled new (node.List b) list_id (OfChains (chains_from (s.xs ++ f.0 ∷ []))) all.2 p,
      )
