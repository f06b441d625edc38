-- The forms that a reserved word opens: the loop over branches, and their nodes.
use Rattle.std.proofs.Common.{◌≡◌, ℕ, ◌<◌, true, false, List, [], ◌∷◌, ◌++◌, codes, length, refl, sym, ◌∙◌, ap, subst, arith, Option, Some, None}
use Rattle.hush_words.specs.Words.{Atom}
use Rattle.hush_words.specs.Parts.{Written, word_atoms}
use Rattle.hush_words.specs.declared.parts.Word as part
use Rattle.hush_words.specs.Tokens.{Token}
use Rattle.hush_syntax.specs.declared.nodes.Bodies.{Bodies}
use Rattle.hush_syntax.specs.declared.keywords.Keyword.TheVariants as keyword
use Rattle.hush_syntax.specs.declared.stored.Block.{Block}
use Rattle.hush_syntax.specs.declared.table.Builder.{Builder}
use Rattle.hush_syntax.specs.declared.nodes.NodeId.{NodeId}
use Rattle.hush_syntax.specs.declared.nodes.Branch as branch
use Rattle.hush_syntax.specs.declared.stored.Stored.TheVariants as node
use Rattle.hush_syntax.specs.Answers.{branch, otherwise}
use Rattle.hush_syntax.specs.Grammar.{Command, For, While, Until, Chains, begins}
use Rattle.hush_syntax.specs.Nodes.{OfChains, OfCommand}
use Rattle.hush_syntax.specs.Stored.{Members, if_built, for_of, built, block_of}
use Rattle.hush_syntax.specs.Builders.{members_of, followed, waiting, add_branches, Adds, Put, SettlesBranches, later, Grows, ChainsAt, CommandAt, BranchAt, OtherwiseAt, LoopAt, if_stored}
use Rattle.hush_syntax.specs.Reading.{behind, skip, is, is_word, one, name, words_at, separators, list, loop_parts, compound, command, inner, then_word}
use Rattle.hush_syntax.specs.Trees.{words_in, name_in}
use Rattle.hush_syntax.proofs.FromMembers.{if_from}
use Rattle.hush_syntax.proofs.Shorter.{behind-begun}
use Rattle.hush_syntax.proofs.IfLoop.{branch-shorter, IfSoFar, if-starts_with, if-branch_none, if-goes_on, if-ends}
use Rattle.hush_syntax.proofs.Building.{Each, goes_on, followed-assoc, branches-up, settled-branches, SoFar, Keeps, still-are, so_far-one, so_far-push, puts, grows-none, grows-both, branch-longer, otherwise-longer, if-at, if-stored}
use Rattle.hush_syntax.proofs.Calls.{Found}

keeps-branch : Keeps BranchAt
keeps-branch at more e x b h = branch-longer at more e x b h

-- words that are a name and what is after it
named-for : (text : Written) (ws : List part.Word) (n : part.Word) (told : List (List Atom)) (d : Chains) → words_in text ws ≡ word_atoms text n ∷ told → for_of text ws d ≡ Some (OfCommand (For (name_in text n) told d))
named-for text [] n told d e = absurd (cc)
named-for text (w ∷ ws) n told d e =
    let first : word_atoms text w ≡ word_atoms text n = cc in
    let others : words_in text ws ≡ told = cc in
    rw (first, others)

module _ (text : Written) (bodies : Bodies) (room : ℕ) where
  -- branches of an `if`
  pub if-smaller : (now after m : List Token) (b : Chains × Chains) → begins (is (codes "elif")) now ≡ true → after ≡ behind now → branch bodies (command bodies room) after ≡ Some (b, m) → length m < length now
  if-smaller now after m b test step read =
      let shorter = branch-shorter bodies room after m b read in
      let gone = behind-begun (is (codes "elif")) now test in
      omega (arith, ap length step)

  pub if-refused : (found : Option (Command × List Token)) (bs : List (Chains × Chains)) (now after : List Token) → IfSoFar bodies room found bs now → begins (is (codes "elif")) now ≡ true → after ≡ behind now → branch bodies (command bodies room) after ≡ None → found ≡ None
  if-refused found bs now after so_far test step read =
      if-branch_none bodies room found bs now so_far test (ap (branch bodies (command bodies room)) (sym step) ∙ read)

  abbrev pub IfGoes : Option (Command × List Token) → List Token → List (Chains × Chains) → Type 0
  IfGoes found now bs = IfSoFar bodies room found bs now

  pub if-init : (ts m : List Token) (old after new : Builder) (b : branch.Branch) → Found BranchAt text (branch bodies (command bodies room) ts) old after m b → Adds add_branches after new b →
      SoFar (IfGoes (compound bodies (command bodies room) keyword.If ts) m) BranchAt add_branches text old new
  if-init ts m old after new b f pushed =
      so_far-one (IfGoes (compound bodies (command bodies room) keyword.If ts) m) BranchAt add_branches text old after new f.0 b f.2 f.3 f.4 pushed
      (if-starts_with bodies room ts m f.0.0 f.0.1 f.1)

  pub if-preserved : (found : Option (Command × List Token)) (old mid after new : Builder) (b : branch.Branch) (now skipped m : List Token) → SoFar (IfGoes found now) BranchAt add_branches text old mid →
      begins (is (codes "elif")) now ≡ true → skipped ≡ behind now → Found BranchAt text (branch bodies (command bodies room) skipped) mid after m b → Adds add_branches after new b →
      SoFar (IfGoes found m) BranchAt add_branches text old new
  if-preserved found old mid after new b now skipped m s test step f pushed =
      so_far-push (IfGoes found now) (IfGoes found m) BranchAt add_branches keeps-branch branches-up text old mid after new f.0 b s f.2 f.3 f.4 pushed
      (if-goes_on bodies room found s.xs f.0 now m s.goes test (ap (branch bodies (command bodies room)) (sym step) ∙ f.1))

  pub if-built : (found : Option (Command × List Token)) (old mid after settled new : Builder) (b : Block) (o : Option NodeId) (id : NodeId) (mark : ℕ) (now r : List Token) →
      SoFar (IfGoes found now) BranchAt add_branches text old mid → begins (is (codes "elif")) now ≡ false → Found OtherwiseAt text (otherwise bodies (command bodies room) now) mid after r o →
      mark ≡ length old.waiting.branches.items → SettlesBranches after settled mark b → Put settled new (if_stored b o) id → Found CommandAt text found old new r id
  if-built found old mid after settled new b o id mark now r s test f at h p =
      let k = settled-branches old after settled s.ys mark b (f.4 ∙ s.waits) at h in
      let grows = grows-both mid.table after.table settled.table f.2 k.1 in
      puts OfCommand text old settled new (if_stored b o) id (if_from s.xs f.0) found r
      (if-ends bodies room found s.xs f.0 now r s.goes test f.1)
      (grows-both old.table mid.table settled.table s.grown grows)
      k.0
      (λ more.
      let others = subst (λ l. Each (BranchAt (later text settled.table more)) s.xs l) (sym (k.2 more)) (still-are BranchAt keeps-branch text mid.table settled.table s.xs s.ys grows s.are more) in
      let last = otherwise-longer (later text after.table (followed k.1.1 more)) (later text settled.table more) (goes_on text after.table settled.table k.1 more) f.0 o (f.3 (followed k.1.1 more)) in
      subst (λ xs. Each (BranchAt (later text settled.table more)) xs (block_of b (followed (members_of settled.table) more).branches) → built (later text settled.table more) text (followed (members_of settled.table) more) (if_stored b o) ≡ Some (OfCommand (if_from xs f.0))) (sym s.goes.are)
      (λ e. let all = if-at (later text settled.table more) (s.goes.condition, s.goes.body) s.goes.others (block_of b (followed (members_of settled.table) more).branches) f.0 o e last in
      let built_so : if_built (later text settled.table more) (block_of b (followed (members_of settled.table) more).branches) o ≡ Some (OfCommand (if_from ((s.goes.condition, s.goes.body) ∷ s.goes.others) f.0)) = rw all in
      if-stored (later text settled.table more) text (followed (members_of settled.table) more) b o ∙ built_so)
      others)
      p

  -- forms
  pub loop-built : (form : Chains → Chains → Command) (old mid new : Builder) (now a b d e : List Token) (p q : NodeId) → Found ChainsAt text (list (command bodies room) now) old mid a p → one (is (codes "do")) a ≡ Some (tt, b) → Found ChainsAt text (inner bodies (command bodies room) b) mid new d q → one (is (codes "done")) d ≡ Some (tt, e) → Found (LoopAt form) text (loop_parts bodies (command bodies room) form now) old new e (p, q)
  loop-built form old mid new now a b d e p q f at_do g at_done =
      (form f.0 g.0, rw (f.1, at_do, g.1, at_done), grows-both old.table mid.table new.table f.2 g.2, λ more. (f.0, g.0, refl, goes_on text mid.table new.table g.2 more p (OfChains f.0) (f.3 (followed g.2.1 more)), g.3 more), g.4 ∙ f.4)

  pub while-built : (old mid new : Builder) (now left : List Token) (p : NodeId × NodeId) (id : NodeId) → Found (LoopAt While) text (loop_parts bodies (command bodies room) While now) old mid left p → Put mid new (node.While p.0 p.1) id → Found CommandAt text (compound bodies (command bodies room) keyword.While now) old new left id
  while-built old mid new now left p id f put =
      puts OfCommand text old mid new (node.While p.0 p.1) id f.0 (loop_parts bodies (command bodies room) While now) left f.1 f.2 f.4
      (λ more. let h = f.3 more in rw (h.3, h.4, h.2))
      put

  pub until-built : (old mid new : Builder) (now left : List Token) (p : NodeId × NodeId) (id : NodeId) → Found (LoopAt Until) text (loop_parts bodies (command bodies room) Until now) old mid left p → Put mid new (node.Until p.0 p.1) id → Found CommandAt text (compound bodies (command bodies room) keyword.Until now) old new left id
  until-built old mid new now left p id f put =
      puts OfCommand text old mid new (node.Until p.0 p.1) id f.0 (loop_parts bodies (command bodies room) Until now) left f.1 f.2 f.4
      (λ more. let h = f.3 more in rw (h.3, h.4, h.2))
      put

  pub branch-built : (old mid new : Builder) (now a b r : List Token) (p q : NodeId) → Found ChainsAt text (list (command bodies room) now) old mid a p → then_word bodies a ≡ Some (tt, b) → Found ChainsAt text (inner bodies (command bodies room) b) mid new r q → Found BranchAt text (branch bodies (command bodies room) now) old new r (record { condition = p; body = q })
  branch-built old mid new now a b r p q f at_then g =
      ((f.0, g.0), rw (f.1, at_then, g.1), grows-both old.table mid.table new.table f.2 g.2, λ more. (goes_on text mid.table new.table g.2 more p (OfChains f.0) (f.3 (followed g.2.1 more)), g.3 more), g.4 ∙ f.4)

  pub otherwise-built : (old new : Builder) (now after d e : List Token) (id : NodeId) → begins (is (codes "else")) now ≡ true → after ≡ behind now → Found ChainsAt text (inner bodies (command bodies room) after) old new d id → one (is (codes "fi")) d ≡ Some (tt, e) → Found OtherwiseAt text (otherwise bodies (command bodies room) now) old new e (Some id)
  otherwise-built old new now after d e id test step f at_fi =
      let read : inner bodies (command bodies room) (behind now) ≡ Some (f.0, d) = ap (inner bodies (command bodies room)) (sym step) ∙ f.1 in
      (Some f.0, rw (test, read, at_fi), f.2, f.3, f.4)

  pub otherwise-none : (t : Builder) (now e : List Token) → begins (is (codes "else")) now ≡ false → one (is (codes "fi")) now ≡ Some (tt, e) → Found OtherwiseAt text (otherwise bodies (command bodies room) now) t t e None
  otherwise-none t now e test at_fi = (None, rw (test, at_fi), grows-none t.table, λ more. tt, refl)

  pub binding-built : (old start mid new : Builder) (now a b c d e f g : List Token) (n : part.Word) (block : Block) (body id : NodeId) → name now ≡ Some (name_in text n, a) →
      one (is (codes "in")) a ≡ Some (tt, b) → ((more : Members) → words_in text (block_of block (start.table.words.items ++ more.words)) ≡ word_atoms text n ∷ words_at b) → Grows old.table start.table → waiting start ≡ waiting old →
      c ≡ skip is_word b → separators c ≡ Some (tt, d) → one (is (codes "do")) d ≡ Some (tt, e) → Found ChainsAt text (inner bodies (command bodies room) e) start mid f body →
      one (is (codes "done")) f ≡ Some (tt, g) → Put mid new (node.For block body) id → Found CommandAt text (compound bodies (command bodies room) keyword.For now) old new g id
  binding-built old start mid new now a b c d e f g n block body id named at_in taken grows waits kept_left seps at_do h at_done put =
      let apart : separators (skip is_word b) ≡ Some (tt, d) = ap separators (sym kept_left) ∙ seps in
      puts OfCommand text old mid new (node.For block body) id (For (name_in text n) (words_at b) h.0) (compound bodies (command bodies room) keyword.For now) g
      (rw (named, at_in, apart, at_do, h.1, at_done))
      (grows-both old.table start.table mid.table grows h.2)
      (h.4 ∙ waits)
      (λ more.
      let at = h.3 more in
      let all : words_in text (block_of block (mid.table.words.items ++ more.words)) ≡ word_atoms text n ∷ words_at b =
      ap (λ (m : Members). words_in text (block_of block m.words)) (ap (λ k. followed k more) h.2.3 ∙ followed-assoc (members_of start.table) h.2.1 more) ∙ taken (followed h.2.1 more) in
      rw at (named-for text (block_of block (mid.table.words.items ++ more.words)) n (words_at b) h.0 all))
      put
