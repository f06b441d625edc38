-- What comes behind a chain, a list and a body that a reader found.
use Rattle.std.proofs.Common.{◌≡◌, ℕ, ◌≤◌, ◌&&◌, true, false, List, [], ◌∷◌, length, refl, sym, ◌∙◌, ap, arith, Option, Some, None, suc, zero, if◌then◌else◌}
use Rattle.std.proofs.lemmas.Bool.{and_parts}
use Rattle.hush_words.specs.Tokens.{Token}
use Rattle.hush_words.specs.Tokens.Token.{Word, Newline, Semicolon, AndIf, OrIf}
use Rattle.hush_syntax.specs.declared.nodes.Bodies.{Bodies}
use Rattle.hush_syntax.specs.Grammar.{Command, Chain, Chains, First, Last, Link, Links, More, End, begins, is_newline, is_separator, nothing}
use Rattle.hush_syntax.specs.Reading.{Reader, ◌into◌, any_newlines, any_separators, mapped, behind, chain, closes, inner, links, list, list_within, may_be_empty, operator_at, separators, skip}
use Rattle.hush_syntax.proofs.Fronts.{by_test, links-go, links-stop}
use Rattle.hush_syntax.proofs.Readers.{by_option, into-some, mapped-some, same_pair}
use Rattle.hush_syntax.proofs.Shorter.{Shortens, empty, operator-shorter, skip-shorter}

pub no-newline : (ts : List Token) → begins is_separator ts ≡ false → begins is_newline ts ≡ false
no-newline [] e = refl
no-newline (Word w ∷ ts) e = refl
no-newline (Newline ∷ ts) e = absurd (let no : true ≡ false = e in cc)
no-newline (Semicolon ∷ ts) e = refl
no-newline (AndIf ∷ ts) e = refl
no-newline (OrIf ∷ ts) e = refl

module _ (bodies : Bodies) (p : Reader Command) (shortens : Shortens p) where
  -- no operator comes behind a chain
  links-end : (m : ℕ) (ts r : List Token) (ls : Links) → length ts ≤ m → links p m ts ≡ Some (ls, r) → operator_at r ≡ None
  links-end zero ts r ls short e =
      let same = same_pair End ls ts r e in
      sym (ap operator_at same.1) ∙ ap operator_at (empty ts short)
  links-end (suc m) ts r ls short e =
      by_option (operator_at ts)
      (λ h. let same = same_pair End ls ts r (rw (links-stop p m ts h) at e) in sym (ap operator_at same.1) ∙ h)
      (λ o h.
      let s = into-some any_newlines (λ _. p into λ c. mapped (Link o c) (links p m)) (behind ts) r ls (rw (links-go p m ts o h) at e) in
      let t = into-some p (λ c. mapped (Link o c) (links p m)) s.1 r ls s.3 in
      let u = mapped-some (Link o t.0) (links p m) t.1 r ls t.3 in
      let first = same_pair tt s.0 (skip is_newline (behind ts)) s.1 s.2 in
      let few : length t.1 ≤ m =
      omega (arith, operator-shorter ts o h, skip-shorter is_newline (behind ts), ap length first.1, shortens s.1 t.1 t.0 t.2) in
      links-end m t.1 r u.0 few u.1)

  pub chain-ends : (ts r : List Token) (c : Chain) → chain p ts ≡ Some (c, r) → operator_at r ≡ None
  chain-ends ts r c e =
      let s = into-some p (λ c ts. mapped (First c) (links p (length ts)) ts) ts r c e in
      let t = mapped-some (First s.0) (links p (length s.1)) s.1 r c s.3 in
      let few : length s.1 ≤ length s.1 = omega arith in
      links-end (length s.1) s.1 r t.0 few t.1

  -- a word that ends it comes behind a list
  list_within-ends : (m : ℕ) (ts r : List Token) (cs : Chains) → list_within p m ts ≡ Some (cs, r) → closes r ≡ true
  list_within-ends zero ts r cs e = absurd (let no : ◌≡◌ {A = Option (Chains × List Token)} None (Some (cs, r)) = e in cc)
  list_within-ends (suc m) ts r cs e =
      let s = into-some (chain p) (λ c. separators into λ _. λ r. if closes r then Some (Last c, r) else mapped (More c) (list_within p m) r) ts r cs e in
      let t = into-some separators (λ _. λ r. if closes r then Some (Last s.0, r) else mapped (More s.0) (list_within p m) r) s.1 r cs s.3 in
      by_test (closes t.1)
      (λ h. let same = same_pair (Last s.0) cs t.1 r (rw h at t.3) in sym (ap closes same.1) ∙ h)
      (λ h. let u = mapped-some (More s.0) (list_within p m) t.1 r cs (rw h at t.3) in list_within-ends m t.1 r u.0 u.1)

  pub list-ends : (ts r : List Token) (cs : Chains) → list p ts ≡ Some (cs, r) → closes r ≡ true
  list-ends ts r cs e =
      let s = into-some any_separators (λ _ ts. list_within p (length ts) ts) ts r cs e in
      list_within-ends (length s.1) s.1 r cs s.3

  pub inner-ends : (ts r : List Token) (cs : Chains) → inner bodies p ts ≡ Some (cs, r) → closes r ≡ true
  inner-ends ts r cs e =
      by_test (may_be_empty bodies && closes (skip is_separator ts))
      (λ h.
      let same = same_pair nothing cs (skip is_separator ts) r (rw h at e) in
      sym (ap closes same.1) ∙ (and_parts (may_be_empty bodies) (closes (skip is_separator ts)) h).1)
      (λ h. list-ends ts r cs (rw h at e))
