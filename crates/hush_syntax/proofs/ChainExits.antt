-- A chain: its loop over commands, and its node.
use Rattle.std.proofs.Common.{◌≡◌, ℕ, ◌+◌, Bool, true, false, not, is_some, if◌then◌else◌, ◌<◌, ◌≤◌, List, [], ◌∷◌, ◌++◌, map, length, refl, sym, ◌∙◌, ap, subst, arith, length-append, Option, Some, None}
use Rattle.hush_words.specs.Parts.{Written}
use Rattle.hush_words.specs.Tokens.{Token}
use Rattle.hush_syntax.specs.declared.nodes.Bodies.{Bodies}
use Rattle.hush_syntax.specs.declared.stored.Block.{Block}
use Rattle.hush_syntax.specs.declared.table.Builder.{Builder}
use Rattle.hush_syntax.specs.declared.nodes.NodeId.{NodeId}
use Rattle.hush_syntax.specs.declared.nodes.Operator.{Operator}
use Rattle.hush_syntax.specs.declared.nodes.Link as link
use Rattle.hush_syntax.specs.declared.stored.Stored.TheVariants as node
use Rattle.hush_syntax.specs.Grammar.{Command, Chain, First, End, is_newline}
use Rattle.hush_syntax.specs.Nodes.{Subtree, OfChain, chain_of, ChainAt}
use Rattle.hush_syntax.specs.Stored.{built, block_of}
use Rattle.hush_syntax.specs.Builders.{Waiting, waiting, members_of, followed, add_links, Adds, Put, SettlesLinks, later, CommandAt}
use Rattle.hush_syntax.specs.Reading.{bind, behind, skip, operator_at, chain, command}
use Rattle.hush_syntax.proofs.FromMembers.{chain_from}
use Rattle.hush_syntax.proofs.Shorter.{operator-shorter, skip-shorter, command-shorter}
use Rattle.hush_syntax.proofs.ChainLoop.{ChainSoFar, chain-starts_with, chain-ends, chain-command_none, chain-goes_on}
use Rattle.hush_syntax.proofs.Building.{joined, Each, links-up, settled-links, SoFar, Keeps, still-are, so_far-one, so_far-push, puts, grows-both, link-longer, chain-at, LinkAt}
use Rattle.hush_syntax.proofs.Calls.{Found}

-- how far the loop over a chain's commands has come; if no operator follows, one is after the first
abbrev pub ChainGoes : Bodies → ℕ → Option (Chain × List Token) → Option Operator → List Token → List (Option Operator × Command) → Type 0
ChainGoes bodies room found next now xs =
    (first : Command) × (others : List (Operator × Command)) × (xs ≡ (None, first) ∷ map joined others) × (next ≡ None → 1 ≤ length others) × ChainSoFar bodies room found xs now

joined-push : (xs : List (Operator × Command)) (o : Operator) (c : Command) → map joined xs ++ (Some o, c) ∷ [] ≡ map joined (xs ++ (o, c) ∷ [])
joined-push [] o c = refl
joined-push (x ∷ xs) o c = ap (λ z. joined x ∷ z) (joined-push xs o c)

keeps-link : Keeps LinkAt
keeps-link at more e x l h = link-longer at more e x l h

-- what waits is not changed by a command
pub mark-kept : (old after : Builder) (mark : ℕ) → waiting after ≡ waiting old → mark ≡ length after.waiting.links.items → mark ≡ length old.waiting.links.items
mark-kept old after mark same at = at ∙ ap (λ (w : Waiting). length w.links) same

-- an operator that is asked for, and passed if it is there
abbrev pub after_operator : Option Operator → List Token → List Token
after_operator next ts = if is_some next then behind ts else ts

none-there : (next : Option Operator) (b : Bool) → is_some next ≡ not b → b ≡ true → next ≡ None
none-there None b is t = refl
none-there (Some o) b is t = absurd (let no : true ≡ false = is ∙ ap not t in cc)

one-there : (next : Option Operator) (b : Bool) → is_some next ≡ not b → b ≡ false → next ≡ None → ⊥
one-there next b is t none = let no : false ≡ true = sym (ap is_some none) ∙ is ∙ ap not t in cc

module _ (text : Written) (bodies : Bodies) (room : ℕ) where
  -- the loop, when an operator was asked for after the last command
  pub record Joining (found : Option (Chain × List Token)) (old mid : Builder) (next : Option Operator) (now : List Token) : Type 0 where
    pub before : List Token
    pub at : next ≡ operator_at before
    pub passed : now ≡ after_operator next before
    pub so_far : SoFar (ChainGoes bodies room found next before) LinkAt add_links text old mid

  pub chain-alone : (ts m r : List Token) (old after : Builder) (id : NodeId) (next : Option Operator) (b : Bool) → Found CommandAt text (command bodies room ts) old after m id → next ≡ operator_at m →
      is_some next ≡ not b → b ≡ true → r ≡ after_operator next m → Found ChainAt text (chain (command bodies room) ts) old after r id
  chain-alone ts m r old after id next b f at is t passed =
      let none = none-there next b is t in
      let kept_left : r ≡ m = passed ∙ ap (λ (n : Option Operator). after_operator n m) none in (
        First f.0 End,
        chain-ends bodies room (chain (command bodies room) ts) ((None, f.0) ∷ []) m (chain-starts_with bodies room ts m f.0 f.1) (sym at ∙ none) ∙ ap (λ (x : List Token). let f : Option (Chain × List Token) = Some (First f.0 End, x) in f) (sym kept_left),
        f.2,
        λ more. ap (λ (s : Option Subtree). bind s chain_of) (f.3 more),
        f.4,
      )

  pub chain-init : (ts m now : List Token) (old after new : Builder) (l : link.Link) (id : NodeId) (next : Option Operator) (b : Bool) → Found CommandAt text (command bodies room ts) old after m id → l.operator ≡ None → l.command ≡ id →
      Adds add_links after new l → next ≡ operator_at m → is_some next ≡ not b → b ≡ false → now ≡ after_operator next m → Joining (chain (command bodies room) ts) old new next now
  chain-init ts m now old after new l id next b f first same pushed at is t passed = record {
    before = m;
    at = at;
    passed = passed;
    so_far = so_far-one (ChainGoes bodies room (chain (command bodies room) ts) next m) LinkAt add_links text old after new (None, f.0) l f.2
        (λ more. (first, ap (λ x. later text after.table more x) same ∙ f.3 more)) f.4 pushed
        (f.0, [], refl, (λ none. absurd (one-there next b is t none)), chain-starts_with bodies room ts m f.0 f.1);
  }

  pub chain-smaller : (now skipped m left : List Token) (c : Command) (next last : Option Operator) (o : Operator) → next ≡ Some o → skipped ≡ skip is_newline now → command bodies room skipped ≡ Some (c, m) →
      last ≡ operator_at m → left ≡ after_operator last m → length left + (if is_some last then 1 else 0) < length now + (if is_some next then 1 else 0)
  chain-smaller now skipped m left c next None o is newlines read at passed =
      let shorter = command-shorter bodies room skipped m c read in
      let fewer = skip-shorter is_newline now in
      rw is (omega (arith, shorter, fewer, ap length newlines, ap length passed))
  chain-smaller now skipped m left c next (Some p) o is newlines read at passed =
      let shorter = command-shorter bodies room skipped m c read in
      let fewer = skip-shorter is_newline now in
      let gone = operator-shorter m p (sym at) in
      rw is (omega (arith, shorter, fewer, gone, ap length newlines, ap length passed))

  -- if the loop goes on, an operator is passed
  is-passed : (found : Option (Chain × List Token)) (old mid : Builder) (next : Option Operator) (o : Operator) (now skipped : List Token) → (j : Joining found old mid next now) → next ≡ Some o → skipped ≡ skip is_newline now →
      command bodies room (skip is_newline (behind j.before)) ≡ command bodies room skipped
  is-passed found old mid next o now skipped j is newlines =
      let passed : now ≡ behind j.before = j.passed ∙ ap (λ (n : Option Operator). after_operator n j.before) is in
      ap (λ x. command bodies room (skip is_newline x)) (sym passed) ∙ ap (command bodies room) (sym newlines)

  pub chain-refused : (found : Option (Chain × List Token)) (old mid : Builder) (next : Option Operator) (o : Operator) (now skipped : List Token) → Joining found old mid next now → next ≡ Some o → skipped ≡ skip is_newline now →
      command bodies room skipped ≡ None → found ≡ None
  chain-refused found old mid next o now skipped j is newlines read =
      chain-command_none bodies room found j.so_far.xs o j.before j.so_far.goes.4 (sym j.at ∙ is) (is-passed found old mid next o now skipped j is newlines ∙ read)

  pub chain-preserved : (found : Option (Chain × List Token)) (old mid after new : Builder) (l : link.Link) (id : NodeId) (next last : Option Operator) (o : Operator) (now skipped m left : List Token) →
      Joining found old mid next now → next ≡ Some o → skipped ≡ skip is_newline now → Found CommandAt text (command bodies room skipped) mid after m id → l.operator ≡ Some o → l.command ≡ id → Adds add_links after new l →
      last ≡ operator_at m → left ≡ after_operator last m → Joining found old new last left
  chain-preserved found old mid after new l id next last o now skipped m left j is newlines f joins same pushed at passed =
      let s = j.so_far in record {
        before = m;
        at = at;
        passed = passed;
        so_far = so_far-push (ChainGoes bodies room found next j.before) (ChainGoes bodies room found last m) LinkAt add_links keeps-link links-up text old mid after new (Some o, f.0) l s f.2
            (λ more. (joins, ap (λ x. later text after.table more x) same ∙ f.3 more)) f.4 pushed (
              s.goes.0,
              s.goes.1 ++ (o, f.0) ∷ [],
              ap (λ x. x ++ (Some o, f.0) ∷ []) s.goes.2 ∙ ap (λ x. (None, s.goes.0) ∷ x) (joined-push s.goes.1 o f.0),
              (λ none. omega (arith, length-append s.goes.1 ((o, f.0) ∷ []))),
              chain-goes_on bodies room found s.xs o f.0 j.before m s.goes.4 (sym j.at ∙ is) (is-passed found old mid next o now skipped j is newlines ∙ f.1),
            );
      }

  pub chain-built : (found : Option (Chain × List Token)) (old mid settled new : Builder) (b : Block) (id : NodeId) (mark : ℕ) (next : Option Operator) (now : List Token) → Joining found old mid next now → next ≡ None →
      mark ≡ length old.waiting.links.items → SettlesLinks mid settled mark b → Put settled new (node.Chain b) id → Found ChainAt text found old new now id
  chain-built found old mid settled new b id mark next now j none at h p =
      let s = j.so_far in
      let kept_left : now ≡ j.before = j.passed ∙ ap (λ (n : Option Operator). after_operator n j.before) none in
      let k = settled-links old mid settled s.ys mark b s.waits at h in
      let whole = puts OfChain text old settled new (node.Chain b) id (chain_from s.xs) found now
      (chain-ends bodies room found s.xs j.before s.goes.4 (sym j.at ∙ none) ∙ ap (λ (x : List Token). let f : Option (Chain × List Token) = Some (chain_from s.xs, x) in f) (sym kept_left))
      (grows-both old.table mid.table settled.table s.grown k.1)
      k.0
      (λ more.
      let all = subst (λ l. Each (LinkAt (later text settled.table more)) s.xs l) (sym (k.2 more)) (still-are LinkAt keeps-link text mid.table settled.table s.xs s.ys k.1 s.are more) in
      subst (λ xs. Each (LinkAt (later text settled.table more)) xs (block_of b (followed (members_of settled.table) more).links) → built (later text settled.table more) text (followed (members_of settled.table) more) (node.Chain b) ≡ Some (OfChain (chain_from xs))) (sym s.goes.2)
      (λ e. let h = chain-at (later text settled.table more) s.goes.0 s.goes.1 (block_of b (followed (members_of settled.table) more).links) (s.goes.3 none) e in rw h) all)
      p in
      (whole.0, whole.1, whole.2, (λ more. ap (λ (s : Option Subtree). bind s chain_of) (whole.3 more)), whole.4)
