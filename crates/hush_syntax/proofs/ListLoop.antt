-- How far the loop over the chains of a list has come: what is read already goes before what the reader still finds.
use Rattle.std.proofs.Common.{◌≡◌, ℕ, ◌≤◌, true, false, List, [], ◌∷◌, ◌++◌, length, refl, sym, ◌∙◌, ap, arith, le_refl, Option, Some, None, suc, zero, if◌then◌else◌}
use Rattle.hush_words.specs.Tokens.{Token}
use Rattle.hush_syntax.specs.declared.nodes.Bodies.{Bodies}
use Rattle.hush_syntax.specs.Grammar.{Chain, Chains, Last, More, is_separator}
use Rattle.hush_syntax.specs.Reading.{bind, mapped, skip, separators, closes, chain, list_within, list, command}
use Rattle.hush_syntax.proofs.FromMembers.{chains_from}
use Rattle.hush_syntax.proofs.Shorter.{empty, chain-empty, chain-shorter, separators-shorter}

-- a list of chains
abbrev pub chains_before : List Chain → Chains → Chains
chains_before [] cs = cs
chains_before (x ∷ xs) cs = More x (chains_before xs cs)

abbrev pub list_before : List Chain → Option (Chains × List Token) → Option (Chains × List Token)
list_before xs found = bind found (λ v. Some (chains_before xs v.0, v.1))

pub chains_before-last : (xs : List Chain) (c : Chain) → chains_before xs (Last c) ≡ chains_from (xs ++ c ∷ [])
chains_before-last [] c = refl
chains_before-last (x ∷ []) c = refl
chains_before-last (x ∷ y ∷ xs) c = ap (More x) (chains_before-last (y ∷ xs) c)

pub chains_before-push : (xs : List Chain) (c : Chain) (cs : Chains) → chains_before xs (More c cs) ≡ chains_before (xs ++ c ∷ []) cs
chains_before-push [] c cs = refl
chains_before-push (x ∷ xs) c cs = ap (More x) (chains_before-push xs c cs)

list_before-push : (xs : List Chain) (c : Chain) (found : Option (Chains × List Token)) → list_before xs (bind found (λ v. Some (More c v.0, v.1))) ≡ list_before (xs ++ c ∷ []) found
list_before-push xs c None = refl
list_before-push xs c (Some v) = rw (chains_before-push xs c v.0)

list_before-none : (found : Option (Chains × List Token)) → found ≡ list_before [] found
list_before-none None = refl
list_before-none (Some v) = refl

-- one turn of the reader of lists
list-turn : (bodies : Bodies) (room n : ℕ) (c : Chain) (now m r : List Token) → length now ≤ n → chain (command bodies room) now ≡ Some (c, m) → separators m ≡ Some (tt, r) → (k : ℕ) × (length r ≤ k) × (list_within (command bodies room) n now ≡ (if closes r then Some (Last c, r) else mapped (More c) (list_within (command bodies room) k) r))
list-turn bodies room zero c now m r short e f =
    absurd (let none : ◌≡◌ {A = Option (Chain × List Token)} None (Some (c, m)) = sym (chain-empty bodies room) ∙ ap (chain (command bodies room)) (sym (empty now short)) ∙ e in cc)
list-turn bodies room (suc k) c now m r short e f =
    (k, omega (arith, chain-shorter bodies room now m c e, separators-shorter m r tt f), rw (e, f))

pub record ListSoFar (bodies : Bodies) (room : ℕ) (found : Option (Chains × List Token)) (xs : List Chain) (now : List Token) : Type 0 where
  pub n : ℕ
  pub short : length now ≤ n
  pub same : found ≡ list_before xs (list_within (command bodies room) n now)

module _ (bodies : Bodies) (room : ℕ) where
  pub list-starts : (ts : List Token) → ListSoFar bodies room (list (command bodies room) ts) [] (skip is_separator ts)
  list-starts ts = record {
    n = length (skip is_separator ts);
    short = le_refl (length (skip is_separator ts));
    same = list_before-none (list_within (command bodies room) (length (skip is_separator ts)) (skip is_separator ts));
  }

  within-none : (n : ℕ) (now : List Token) → chain (command bodies room) now ≡ None → list_within (command bodies room) n now ≡ None
  within-none zero now e = refl
  within-none (suc n) now e = rw e

  within-separators : (n : ℕ) (c : Chain) (now m : List Token) → chain (command bodies room) now ≡ Some (c, m) → separators m ≡ None → list_within (command bodies room) n now ≡ None
  within-separators zero c now m e f = refl
  within-separators (suc n) c now m e f = rw (e, f)

  pub list-none : (found : Option (Chains × List Token)) (xs : List Chain) (now : List Token) → ListSoFar bodies room found xs now → chain (command bodies room) now ≡ None → found ≡ None
  list-none found xs now so_far e = so_far.same ∙ ap (list_before xs) (within-none so_far.n now e)

  pub list-separators : (found : Option (Chains × List Token)) (xs : List Chain) (c : Chain) (now m : List Token) → ListSoFar bodies room found xs now → chain (command bodies room) now ≡ Some (c, m) → separators m ≡ None → found ≡ None
  list-separators found xs c now m so_far e f = so_far.same ∙ ap (list_before xs) (within-separators so_far.n c now m e f)

  pub list-ends : (found : Option (Chains × List Token)) (xs : List Chain) (c : Chain) (now m r : List Token) → ListSoFar bodies room found xs now → chain (command bodies room) now ≡ Some (c, m) → separators m ≡ Some (tt, r) → closes r ≡ true → found ≡ Some (chains_from (xs ++ c ∷ []), r)
  list-ends found xs c now m r so_far e f h =
      let turn = list-turn bodies room so_far.n c now m r so_far.short e f in
      so_far.same ∙ ap (list_before xs) turn.2 ∙ rw (h, chains_before-last xs c)

  pub list-goes_on : (found : Option (Chains × List Token)) (xs : List Chain) (c : Chain) (now m r : List Token) → ListSoFar bodies room found xs now → chain (command bodies room) now ≡ Some (c, m) → separators m ≡ Some (tt, r) → closes r ≡ false → ListSoFar bodies room found (xs ++ c ∷ []) r
  list-goes_on found xs c now m r so_far e f h =
      let turn = list-turn bodies room so_far.n c now m r so_far.short e f in
      record {
        n = turn.0;
        short = turn.1;
        same = so_far.same ∙ ap (list_before xs) turn.2 ∙ rw h (list_before-push xs c (list_within (command bodies room) turn.0 r));
      }
