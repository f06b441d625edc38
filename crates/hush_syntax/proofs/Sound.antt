-- The tree that the reader finds is spelled by the tokens that it took.
use Rattle.std.proofs.Common.{◌≡◌, ◌&&◌, ℕ, ◌≤◌, max, true, List, [], ◌∷◌, ◌++◌, map, codes, length, refl, sym, ◌∙◌, ap, subst, arith, Option, Some, None, suc, zero, if◌then◌else◌}
use Rattle.std.proofs.lemmas.Bool.{and_parts}
use Rattle.hush_words.specs.Words.Atom.{Plain}
use Rattle.hush_words.specs.Forms.{assignment_of}
use Rattle.hush_words.specs.Tokens.{Token}
use Rattle.hush_words.specs.Tokens.Token.{Word, Newline, Semicolon, AndIf, OrIf}
use Rattle.hush_syntax.specs.declared.nodes.Bodies.{Bodies}
use Rattle.hush_syntax.specs.declared.keywords.Keyword.{Keyword}
use Rattle.hush_syntax.specs.declared.keywords.Keyword.TheVariants as keyword
use Rattle.hush_syntax.specs.Keywords.{spelling}
use Rattle.hush_syntax.specs.Grammar.{Command, Simple, Assign, If, For, While, Until, Branches, Elif, Else, Fi, Chain, First, Links, Link, End, Chains, Last, More, ◌then◌, Is, IsName, AreWords, is_newline, is_separator, begins, AnyNewlines, AnySeparators, Separators, operator_token, IsOperator, begins_command, Spells, SpellsBranches, SpellsChain, SpellsLinks, SpellsList, SpellsChains, SpellsScript, depth, depth_in_branches, depth_in_chain, depth_in_links, depth_inside, script_depth, nest_limit, nothing, SpellsInner, AfterThen}
use Rattle.hush_syntax.specs.Reading.{Reader, bind, ◌into◌, mapped, behind, skip, is_end, is_word, is, one, any_newlines, separators, words_at, any_words, name, plain, keyword_at, closes, operator_at, links, chain, list_within, list, branches_within, branches, loop_parts, compound, chains_within, command, script_in, inner, may_be_empty, then_word}
use Rattle.hush_syntax.proofs.Fronts.{all-skipped, by_test, skip-splits, words_at-splits, links-stop, links-go, plain-assignment, plain-simple, command-compound, command-plain, command-none, inner-list, inner-nothing}
use Rattle.hush_syntax.proofs.Forms.{FormsAreTold, begins_is, keyword_at-some, assignment_of-some}
use Rattle.hush_syntax.proofs.Readers.{by_option, bind-some, same_pair, into-some, mapped-some, then-some}
use Rattle.hush_syntax.proofs.SoundParts.{Reads, reads_then, reads_after, one-some, separators-reads, separators-some, name-some, operator_at-some}

-- what a reader of commands finds is spelled, and has no more if, for, while and until inside one another
abbrev pub IsSound : Bodies → ℕ → Reader Command → Type 0
IsSound bodies n p = (ts r : List Token) (c : Command) → p ts ≡ Some (c, r) → Reads (Spells bodies c) ts r × (depth c ≤ n)

module _ (told : FormsAreTold) (bodies : Bodies) (n : ℕ) (p : Reader Command) (sound : IsSound bodies n p) where
  pub links-sound : (m : ℕ) (ts r : List Token) (ls : Links) → links p m ts ≡ Some (ls, r) → Reads (SpellsLinks bodies ls) ts r × (depth_in_links ls ≤ n)
  links-sound zero ts r ls e =
      let same = same_pair End ls ts r e in
      subst (λ x. Reads (SpellsLinks bodies x) ts r × (depth_in_links x ≤ n)) same.0 (([], same.1, refl), omega arith)
  links-sound (suc m) ts r ls e =
      by_option (operator_at ts)
      (λ h.
      let same = same_pair End ls ts r (rw (links-stop p m ts h) at e) in
      subst (λ x. Reads (SpellsLinks bodies x) ts r × (depth_in_links x ≤ n)) same.0 (([], same.1, refl), omega arith))
      (λ o h.
      let go : (any_newlines into λ _. p into λ c. mapped (Link o c) (links p m)) (behind ts) ≡ Some (ls, r) = rw (links-go p m ts o h) at e in
      let skipped = skip-splits is_newline (behind ts) in
      let s = into-some p (λ c. mapped (Link o c) (links p m)) (skip is_newline (behind ts)) r ls go in
      let t = mapped-some (Link o s.0) (links p m) s.1 r ls s.3 in
      let command = sound (skip is_newline (behind ts)) s.1 s.0 s.2 in
      let rest = links-sound m s.1 r t.0 t.1 in
      let read = reads_then (IsOperator o) (AnyNewlines then Spells bodies s.0 then SpellsLinks bodies t.0) ts (behind ts) r
      (operator_token o ∷ [], operator_at-some ts o h, refl)
      (reads_then AnyNewlines (Spells bodies s.0 then SpellsLinks bodies t.0) (behind ts) (skip is_newline (behind ts)) r skipped
      (reads_then (Spells bodies s.0) (SpellsLinks bodies t.0) (skip is_newline (behind ts)) s.1 r command.0 rest.0)) in
      subst (λ x. Reads (SpellsLinks bodies x) ts r × (depth_in_links x ≤ n)) (sym t.2) (read, omega (arith, command.1, rest.1)))

  pub chain-sound : (ts r : List Token) (c : Chain) → chain p ts ≡ Some (c, r) → Reads (SpellsChain bodies c) ts r × (depth_in_chain c ≤ n)
  chain-sound ts r c e =
      let s = into-some p (λ c ts. mapped (First c) (links p (length ts)) ts) ts r c e in
      let t = mapped-some (First s.0) (links p (length s.1)) s.1 r c s.3 in
      let command = sound ts s.1 s.0 s.2 in
      let rest = links-sound (length s.1) s.1 r t.0 t.1 in
      subst (λ x. Reads (SpellsChain bodies x) ts r × (depth_in_chain x ≤ n)) (sym t.2)
      (reads_then (Spells bodies s.0) (SpellsLinks bodies t.0) ts s.1 r command.0 rest.0, omega (arith, command.1, rest.1))

  pub list_within-sound : (m : ℕ) (ts r : List Token) (cs : Chains) → list_within p m ts ≡ Some (cs, r) → Reads (SpellsList bodies cs) ts r × (depth_inside cs ≤ n)
  list_within-sound zero ts r cs e = absurd (let no : ◌≡◌ {A = Option (Chains × List Token)} None (Some (cs, r)) = e in cc)
  list_within-sound (suc m) ts r cs e =
      let s = into-some (chain p) (λ c. separators into λ _. λ r. if closes r then Some (Last c, r) else mapped (More c) (list_within p m) r) ts r cs e in
      let t = into-some separators (λ _. λ r. if closes r then Some (Last s.0, r) else mapped (More s.0) (list_within p m) r) s.1 r cs s.3 in
      let first = chain-sound ts s.1 s.0 s.2 in
      let seps = separators-some s.1 t.1 t.0 t.2 in
      by_test (closes t.1)
      (λ h.
      let same = same_pair (Last s.0) cs t.1 r (rw h at t.3) in
      subst (λ x. Reads (SpellsList bodies x) ts r × (depth_inside x ≤ n)) same.0
      (subst (λ x. Reads (SpellsList bodies (Last s.0)) ts x) same.1 (reads_then (SpellsChain bodies s.0) Separators ts s.1 t.1 first.0 seps), omega (arith, first.1)))
      (λ h.
      let go : mapped (More s.0) (list_within p m) t.1 ≡ Some (cs, r) = rw h at t.3 in
      let u = mapped-some (More s.0) (list_within p m) t.1 r cs go in
      let rest = list_within-sound m t.1 r u.0 u.1 in
      subst (λ x. Reads (SpellsList bodies x) ts r × (depth_inside x ≤ n)) (sym u.2)
      (reads_then (SpellsChain bodies s.0) (Separators then SpellsList bodies u.0) ts s.1 r first.0 (reads_then Separators (SpellsList bodies u.0) s.1 t.1 r seps rest.0), omega (arith, first.1, rest.1)))

  -- optional separators before a list
  pub reads_part : (Q : List Token → Type 0) (ts m r : List Token) (cs : Chains) → list p ts ≡ Some (cs, m) → Reads Q m r → Reads (AnySeparators then SpellsList bodies cs then Q) ts r × (depth_inside cs ≤ n)
  reads_part Q ts m r cs e q =
      let s = list_within-sound (length (skip is_separator ts)) (skip is_separator ts) m cs e in
      (reads_then AnySeparators (SpellsList bodies cs then Q) ts (skip is_separator ts) r (skip-splits is_separator ts) (reads_then (SpellsList bodies cs) Q (skip is_separator ts) m r s.0 q), s.1)

  -- a body
  reads_inner : (Q : List Token → Type 0) (ts m r : List Token) (d : Chains) → inner bodies p ts ≡ Some (d, m) → Reads Q m r → Reads (SpellsInner bodies d then Q) ts r × (depth_inside d ≤ n)
  reads_inner Q ts m r d e q =
      let skipped = skip-splits is_separator ts in
      by_test (may_be_empty bodies && closes (skip is_separator ts))
      (λ h.
      let same = same_pair nothing d (skip is_separator ts) m (rw h at e) in
      let may = and_parts (may_be_empty bodies) (closes (skip is_separator ts)) h in
      let part : Reads (SpellsInner bodies d) ts m = (skipped.0, skipped.1 ∙ ap (λ x. skipped.0 ++ x) same.1, inner-nothing bodies d (SpellsList bodies d) skipped.0 may.0 (sym same.0) skipped.2) in
      (reads_then (SpellsInner bodies d) Q ts m r part q, subst (λ x. depth_inside x ≤ n) same.0 (omega arith)))
      (λ h.
      let s = list_within-sound (length (skip is_separator ts)) (skip is_separator ts) m d (rw h at e) in
      let k = reads_then AnySeparators (SpellsList bodies d) ts (skip is_separator ts) m skipped s.0 in
      let part : Reads (SpellsInner bodies d) ts m = (k.0, k.1, inner-list bodies d (SpellsList bodies d) k.0 k.2) in
      (reads_then (SpellsInner bodies d) Q ts m r part q, s.1))

  -- one word and what follows it
  reads_word : (text : List ℕ) (Q : List Token → Type 0) (ts m r : List Token) (u : Unit {0}) → one (is text) ts ≡ Some (u, m) → Reads Q m r → Reads (Is text then Q) ts r
  reads_word text Q ts m r u e q = reads_then (Is text) Q ts m r (one-some told text ts m u e) q

  -- a last word
  body-sound : {Y : Type 0} (ts r : List Token) (f : Chains → Y) (y : Y) → (one (is (codes "do")) into λ _. inner bodies p into λ d. mapped (λ _. f d) (one (is (codes "done")))) ts ≡ Some (y, r) → (d : Chains) × (y ≡ f d) × Reads (Is (codes "do") then SpellsInner bodies d then Is (codes "done")) ts r × (depth_inside d ≤ n)
  body-sound ts r f y e =
      let s = into-some (one (is (codes "do"))) (λ _. inner bodies p into λ d. mapped (λ _. f d) (one (is (codes "done")))) ts r y e in
      let t = into-some (inner bodies p) (λ d. mapped (λ _. f d) (one (is (codes "done")))) s.1 r y s.3 in
      let u = mapped-some (λ _. f t.0) (one (is (codes "done"))) t.1 r y t.3 in
      let body = reads_inner (Is (codes "done")) s.1 t.1 r t.0 t.2 (one-some told (codes "done") t.1 r u.0 u.1) in
      (t.0, u.2, reads_word (codes "do") (SpellsInner bodies t.0 then Is (codes "done")) ts s.1 r s.0 s.2 body.0, body.1)

  loop-sound : (form : Chains → Chains → Command) (ts r : List Token) (y : Command) → loop_parts bodies p form ts ≡ Some (y, r) → (c : Chains) × (d : Chains) × (y ≡ form c d) × Reads (AnySeparators then SpellsList bodies c then Is (codes "do") then SpellsInner bodies d then Is (codes "done")) ts r × (depth_inside c ≤ n) × (depth_inside d ≤ n)
  loop-sound form ts r y e =
      let s = into-some (list p) (λ c. one (is (codes "do")) into λ _. inner bodies p into λ d. mapped (λ _. form c d) (one (is (codes "done")))) ts r y e in
      let body = body-sound s.1 r (form s.0) y s.3 in
      let whole = reads_part (Is (codes "do") then SpellsInner bodies body.0 then Is (codes "done")) ts s.1 r s.0 s.2 body.2 in
      (s.0, body.0, body.1, whole.0, whole.1, body.3)

  branch-sound : {Y : Type 0} (rest : Reader Branches) → ((ts r : List Token) (bs : Branches) → rest ts ≡ Some (bs, r) → Reads (SpellsBranches bodies bs) ts r × (depth_in_branches bs ≤ n)) → (f : Chains → Chains → Branches → Y) (ts r : List Token) (y : Y) → (list p into λ c. then_word bodies into λ _. inner bodies p into λ d. mapped (f c d) rest) ts ≡ Some (y, r) → (c : Chains) × (d : Chains) × (bs : Branches) × (y ≡ f c d bs) × Reads (AnySeparators then SpellsList bodies c then Is (codes "then") then AfterThen bodies (SpellsInner bodies d then SpellsBranches bodies bs)) ts r × (max (max (depth_inside c) (depth_inside d)) (depth_in_branches bs) ≤ n)
  branch-sound rest rest-sound f ts r y e =
      let s = into-some (list p) (λ c. then_word bodies into λ _. inner bodies p into λ d. mapped (f c d) rest) ts r y e in
      let t = into-some (then_word bodies) (λ _. inner bodies p into λ d. mapped (f s.0 d) rest) s.1 r y s.3 in
      let u = into-some (inner bodies p) (λ d. mapped (f s.0 d) rest) t.1 r y t.3 in
      let v = mapped-some (f s.0 u.0) rest u.1 r y u.3 in
      let last = rest-sound u.1 r v.0 v.1 in
      let body = reads_inner (SpellsBranches bodies v.0) t.1 u.1 r u.0 u.2 last.0 in
      let w = then-some bodies s.1 t.1 t.0 t.2 in
      let after = reads_after told bodies (SpellsInner bodies u.0 then SpellsBranches bodies v.0) t.1 r w.1 body.0 in
      let whole = reads_part (Is (codes "then") then AfterThen bodies (SpellsInner bodies u.0 then SpellsBranches bodies v.0)) ts s.1 r s.0 s.2 (reads_word (codes "then") (AfterThen bodies (SpellsInner bodies u.0 then SpellsBranches bodies v.0)) s.1 t.1 r t.0 w.0 after) in
      (s.0, u.0, v.0, v.2, whole.0, omega (arith, whole.1, body.1, last.1))

  branches-sound : (m : ℕ) (ts r : List Token) (bs : Branches) → branches_within bodies p m ts ≡ Some (bs, r) → Reads (SpellsBranches bodies bs) ts r × (depth_in_branches bs ≤ n)
  branches-sound zero ts r bs e = absurd (let no : ◌≡◌ {A = Option (Branches × List Token)} None (Some (bs, r)) = e in cc)
  branches-sound (suc m) ts r bs e =
      by_test (begins (is (codes "elif")) ts)
      (λ h.
      let s = branch-sound (branches_within bodies p m) (branches-sound m) Elif (behind ts) r bs (rw h at e) in
      subst (λ x. Reads (SpellsBranches bodies x) ts r × (depth_in_branches x ≤ n)) (sym s.3)
      (reads_then (Is (codes "elif")) (AnySeparators then SpellsList bodies s.0 then Is (codes "then") then AfterThen bodies (SpellsInner bodies s.1 then SpellsBranches bodies s.2)) ts (behind ts) r (Word (map Plain (codes "elif")) ∷ [], begins_is told (codes "elif") ts h, refl) s.4, s.5))
      (λ h.
      let e2 = rw h at e in
      by_test (begins (is (codes "else")) ts)
      (λ g.
      let s = into-some (inner bodies p) (λ d. mapped (λ _. Else d) (one (is (codes "fi")))) (behind ts) r bs (rw g at e2) in
      let t = mapped-some (λ _. Else s.0) (one (is (codes "fi"))) s.1 r bs s.3 in
      let body = reads_inner (Is (codes "fi")) (behind ts) s.1 r s.0 s.2 (one-some told (codes "fi") s.1 r t.0 t.1) in
      subst (λ x. Reads (SpellsBranches bodies x) ts r × (depth_in_branches x ≤ n)) (sym t.2)
      (reads_then (Is (codes "else")) (SpellsInner bodies s.0 then Is (codes "fi")) ts (behind ts) r (Word (map Plain (codes "else")) ∷ [], begins_is told (codes "else") ts g, refl) body.0, body.1))
      (λ g.
      let t = mapped-some (λ _. Fi) (one (is (codes "fi"))) ts r bs (rw g at e2) in
      subst (λ x. Reads (SpellsBranches bodies x) ts r × (depth_in_branches x ≤ n)) (sym t.2) (one-some told (codes "fi") ts r t.0 t.1, omega arith)))

  -- the forms that an opening word leads to
  opened : (k : Keyword) (Q : List Token → Type 0) (ts r : List Token) → keyword_at ts ≡ Some k → Reads Q (behind ts) r → Reads (Is (spelling k) then Q) ts r
  opened k Q ts r e q = reads_then (Is (spelling k)) Q ts (behind ts) r (Word (map Plain (spelling k)) ∷ [], keyword_at-some told ts k e, refl) q

  pub compound-sound : (k : Keyword) (ts r : List Token) (y : Command) → keyword_at ts ≡ Some k → compound bodies p k (behind ts) ≡ Some (y, r) → Reads (Spells bodies y) ts r × (depth y ≤ suc n)
  compound-sound keyword.If ts r y k e =
      let s = branch-sound (branches bodies p) (λ ts. branches-sound (length ts) ts) If (behind ts) r y e in
      subst (λ x. Reads (Spells bodies x) ts r × (depth x ≤ suc n)) (sym s.3)
      (opened keyword.If (AnySeparators then SpellsList bodies s.0 then Is (codes "then") then AfterThen bodies (SpellsInner bodies s.1 then SpellsBranches bodies s.2)) ts r k s.4, omega (arith, s.5))
  compound-sound keyword.For ts r y k e =
      let s1 = into-some name (λ v. one (is (codes "in")) into λ _. any_words into λ words. separators into λ _. one (is (codes "do")) into λ _. inner bodies p into λ d. mapped (λ _. For v words d) (one (is (codes "done")))) (behind ts) r y e in
      let s2 = into-some (one (is (codes "in"))) (λ _. any_words into λ words. separators into λ _. one (is (codes "do")) into λ _. inner bodies p into λ d. mapped (λ _. For s1.0 words d) (one (is (codes "done")))) s1.1 r y s1.3 in
      let words = words_at s2.1 in
      let left = skip is_word s2.1 in
      let s3 = into-some separators (λ _. one (is (codes "do")) into λ _. inner bodies p into λ d. mapped (λ _. For s1.0 words d) (one (is (codes "done")))) left r y s2.3 in
      let s4 = body-sound s3.1 r (For s1.0 words) y s3.3 in
      let Q4 = Is (codes "do") then SpellsInner bodies s4.0 then Is (codes "done") in
      subst (λ x. Reads (Spells bodies x) ts r × (depth x ≤ suc n)) (sym s4.1) (
        opened keyword.For (IsName s1.0 then Is (codes "in") then AreWords words then Separators then Q4) ts r k
            (reads_then (IsName s1.0) (Is (codes "in") then AreWords words then Separators then Q4) (behind ts) s1.1 r (name-some told (behind ts) s1.1 s1.0 s1.2)
            (reads_word (codes "in") (AreWords words then Separators then Q4) s1.1 s2.1 r s2.0 s2.2
            (reads_then (AreWords words) (Separators then Q4) s2.1 left r (map Word words, words_at-splits s2.1, refl)
            (reads_then Separators Q4 left s3.1 r (separators-some left s3.1 s3.0 s3.2) s4.2)))),
        omega (arith, s4.3),
      )
  compound-sound keyword.While ts r y k e =
      let s = loop-sound While (behind ts) r y e in
      subst (λ x. Reads (Spells bodies x) ts r × (depth x ≤ suc n)) (sym s.2)
      (opened keyword.While (AnySeparators then SpellsList bodies s.0 then Is (codes "do") then SpellsInner bodies s.1 then Is (codes "done")) ts r k s.3, omega (arith, s.4, s.5))
  compound-sound keyword.Until ts r y k e =
      let s = loop-sound Until (behind ts) r y e in
      subst (λ x. Reads (Spells bodies x) ts r × (depth x ≤ suc n)) (sym s.2)
      (opened keyword.Until (AnySeparators then SpellsList bodies s.0 then Is (codes "do") then SpellsInner bodies s.1 then Is (codes "done")) ts r k s.3, omega (arith, s.4, s.5))
  compound-sound keyword.Then ts r y k e = absurd (let no : ◌≡◌ {A = Option (Command × List Token)} None (Some (y, r)) = e in cc)
  compound-sound keyword.Elif ts r y k e = absurd (let no : ◌≡◌ {A = Option (Command × List Token)} None (Some (y, r)) = e in cc)
  compound-sound keyword.Else ts r y k e = absurd (let no : ◌≡◌ {A = Option (Command × List Token)} None (Some (y, r)) = e in cc)
  compound-sound keyword.Fi ts r y k e = absurd (let no : ◌≡◌ {A = Option (Command × List Token)} None (Some (y, r)) = e in cc)
  compound-sound keyword.Do ts r y k e = absurd (let no : ◌≡◌ {A = Option (Command × List Token)} None (Some (y, r)) = e in cc)
  compound-sound keyword.Done ts r y k e = absurd (let no : ◌≡◌ {A = Option (Command × List Token)} None (Some (y, r)) = e in cc)

  pub chains_within-sound : (m : ℕ) (ts : List Token) (cs : Chains) → chains_within p m ts ≡ Some cs → SpellsChains bodies cs ts × (depth_inside cs ≤ n)
  chains_within-sound zero ts cs e = absurd (let no : ◌≡◌ {A = Option Chains} None (Some cs) = e in cc)
  chains_within-sound (suc m) ts cs e =
      let s = bind-some (chain p ts) (λ c.
      if is_end (skip is_separator c.1) then Some (Last c.0)
      else (if begins is_separator c.1 then bind (chains_within p m (skip is_separator c.1)) (λ cs. Some (More c.0 cs))
      else None)) cs e in
      let c = s.0.0 in
      let left = s.0.1 in
      let first = chain-sound ts left c s.1 in
      by_test (is_end (skip is_separator left))
      (λ h.
      let last : ◌≡◌ {A = Option Chains} (Some (Last c)) (Some cs) = rw h at s.2 in
      let same : Last c ≡ cs = cc in
      subst (λ x. SpellsChains bodies x ts × (depth_inside x ≤ n)) same
      ((first.0.0, left, first.0.1, first.0.2, all-skipped is_separator left h), first.1))
      (λ h.
      let e2 = rw h at s.2 in
      by_test (begins is_separator left)
      (λ g.
      let t = bind-some (chains_within p m (skip is_separator left)) (λ cs. Some (More c cs)) cs (rw g at e2) in
      let rest = chains_within-sound m (skip is_separator left) t.0 t.1 in
      let more : ◌≡◌ {A = Option Chains} (Some (More c t.0)) (Some cs) = t.2 in
      let same : More c t.0 ≡ cs = cc in
      let seps = separators-reads left g in
      subst (λ x. SpellsChains bodies x ts × (depth_inside x ≤ n)) same
      ((first.0.0, left, first.0.1, first.0.2, (seps.0, skip is_separator left, seps.1, seps.2, rest.0)), omega (arith, first.1, rest.1)))
      (λ g. absurd (let no : ◌≡◌ {A = Option Chains} None (Some cs) = rw g at e2 in cc)))

module _ (told : FormsAreTold) (bodies : Bodies) where
  plain-sound : (n : ℕ) (ts r : List Token) (y : Command) → keyword_at ts ≡ None → plain ts ≡ Some (y, r) → Reads (Spells bodies y) ts r × (depth y ≤ n)
  plain-sound n [] r y k e = absurd (let no : ◌≡◌ {A = Option (Command × List Token)} None (Some (y, r)) = e in cc)
  plain-sound n (Word w ∷ ts) r y k e =
      by_option (assignment_of w)
      (λ h.
      let same = same_pair (Simple (w ∷ words_at ts)) y (skip is_word ts) r (rw (plain-simple w ts h) at e) in
      let form : begins_command (w ∷ words_at ts) ≡ true = rw (k, h) in
      subst (λ x. Reads (Spells bodies x) (Word w ∷ ts) r × (depth x ≤ n)) same.0
      ((map Word (w ∷ words_at ts), ap (λ x. Word w ∷ x) (words_at-splits ts ∙ ap (λ x. map Word (words_at ts) ++ x) same.1), (form, refl)), omega arith))
      (λ a h.
      let e2 = rw (plain-assignment w ts a h) at e in
      by_test (begins is_word ts)
      (λ g. absurd (let no : ◌≡◌ {A = Option (Command × List Token)} None (Some (y, r)) = rw g at e2 in cc))
      (λ g.
      let same = same_pair (Assign a.0 a.1) y ts r (rw g at e2) in
      let form = assignment_of-some told w a.0 a.1 h in
      subst (λ x. Reads (Spells bodies x) (Word w ∷ ts) r × (depth x ≤ n)) same.0
      ((Word w ∷ [], ap (λ x. Word w ∷ x) same.1, (form.0, ap (λ x. Word x ∷ []) form.1)), omega arith)))
  plain-sound n (Newline ∷ ts) r y k e = absurd (let no : ◌≡◌ {A = Option (Command × List Token)} None (Some (y, r)) = e in cc)
  plain-sound n (Semicolon ∷ ts) r y k e = absurd (let no : ◌≡◌ {A = Option (Command × List Token)} None (Some (y, r)) = e in cc)
  plain-sound n (AndIf ∷ ts) r y k e = absurd (let no : ◌≡◌ {A = Option (Command × List Token)} None (Some (y, r)) = e in cc)
  plain-sound n (OrIf ∷ ts) r y k e = absurd (let no : ◌≡◌ {A = Option (Command × List Token)} None (Some (y, r)) = e in cc)

  pub command-sound : (n : ℕ) → IsSound bodies n (command bodies n)
  command-sound zero ts r y e =
      by_option (keyword_at ts)
      (λ h. plain-sound zero ts r y h (rw (command-plain bodies zero ts h) at e))
      (λ k h. absurd (let no : ◌≡◌ {A = Option (Command × List Token)} None (Some (y, r)) = rw (command-none bodies k ts h) at e in cc))
  command-sound (suc n) ts r y e =
      by_option (keyword_at ts)
      (λ h. plain-sound (suc n) ts r y h (rw (command-plain bodies (suc n) ts h) at e))
      (λ k h. compound-sound told bodies n (command bodies n) (command-sound n) k ts r y h (rw (command-compound bodies n k ts h) at e))

  pub script-sound : (ts : List Token) (t : Option Chains) → script_in bodies ts ≡ Some t → SpellsScript bodies t ts × (script_depth t ≤ nest_limit)
  script-sound ts t e =
      by_test (is_end (skip is_separator ts))
      (λ h.
      let empty : ◌≡◌ {A = Option (Option Chains)} (Some None) (Some t) = rw h at e in
      let same : None ≡ t = cc in
      subst (λ x. SpellsScript bodies x ts × (script_depth x ≤ nest_limit)) same (all-skipped is_separator ts h, omega arith))
      (λ h.
      let s = bind-some (chains_within (command bodies nest_limit) (length (skip is_separator ts)) (skip is_separator ts)) (λ cs. Some (Some cs)) t (rw h at e) in
      let some : ◌≡◌ {A = Option (Option Chains)} (Some (Some s.0)) (Some t) = s.2 in
      let same : Some s.0 ≡ t = cc in
      let chains = chains_within-sound told bodies nest_limit (command bodies nest_limit) (command-sound nest_limit) (length (skip is_separator ts)) (skip is_separator ts) s.0 s.1 in
      let skipped = skip-splits is_separator ts in
      subst (λ x. SpellsScript bodies x ts × (script_depth x ≤ nest_limit)) same
      ((skipped.0, skip is_separator ts, skipped.1, skipped.2, chains.0), chains.1))
