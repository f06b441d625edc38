-- How far the loop over the chains of a script has come: what is read already goes before what the reader still finds.
use Rattle.std.proofs.Common.{◌≡◌, ℕ, ◌≤◌, true, false, List, [], ◌∷◌, ◌++◌, length, refl, sym, ◌∙◌, ap, arith, le_refl, Option, Some, None, suc, zero}
use Rattle.hush_words.specs.Tokens.{Token}
use Rattle.hush_syntax.specs.declared.nodes.Bodies.{Bodies}
use Rattle.hush_syntax.specs.Grammar.{Chain, Chains, More, is_separator, begins, nest_limit}
use Rattle.hush_syntax.specs.Reading.{bind, skip, is_end, chain, chains_within, command, script_in}
use Rattle.hush_syntax.proofs.FromMembers.{chains_from}
use Rattle.hush_syntax.proofs.Shorter.{skip-begun, empty, chain-empty, chain-shorter}
use Rattle.hush_syntax.proofs.ListLoop.{chains_before, chains_before-last, chains_before-push}

abbrev pub script_before : List Chain → Option Chains → Option (Option Chains)
script_before xs found = bind found (λ cs. Some (Some (chains_before xs cs)))

pub record ScriptSoFar (bodies : Bodies) (found : Option (Option Chains)) (xs : List Chain) (now : List Token) : Type 0 where
  pub n : ℕ
  pub short : length now ≤ n
  pub same : found ≡ script_before xs (chains_within (command bodies nest_limit) n now)

script_before-none : (found : Option Chains) → bind found (λ cs. let o : Option (Option Chains) = Some (Some cs) in o) ≡ script_before [] found
script_before-none None = refl
script_before-none (Some v) = refl

script_before-push : (xs : List Chain) (c : Chain) (found : Option Chains) → script_before xs (bind found (λ cs. Some (More c cs))) ≡ script_before (xs ++ c ∷ []) found
script_before-push xs c None = refl
script_before-push xs c (Some v) = rw (chains_before-push xs c v)

script-turn : (bodies : Bodies) → (n : ℕ) (c : Chain) (now m : List Token) → length now ≤ n → chain (command bodies nest_limit) now ≡ Some (c, m) → (k : ℕ) × (n ≡ suc k)
script-turn bodies zero c now m short e =
    absurd (let none : ◌≡◌ {A = Option (Chain × List Token)} None (Some (c, m)) = sym (chain-empty bodies nest_limit) ∙ ap (chain (command bodies nest_limit)) (sym (empty now short)) ∙ e in cc)
script-turn bodies (suc k) c now m short e = (k, refl)

pub script-empty : (bodies : Bodies) → (ts : List Token) → is_end (skip is_separator ts) ≡ true → script_in bodies ts ≡ Some None
script-empty bodies ts e = rw e

pub script-starts : (bodies : Bodies) → (ts : List Token) → is_end (skip is_separator ts) ≡ false → ScriptSoFar bodies (script_in bodies ts) [] (skip is_separator ts)
script-starts bodies ts e = record {
  n = length (skip is_separator ts);
  short = le_refl (length (skip is_separator ts));
  same = rw e (script_before-none (chains_within (command bodies nest_limit) (length (skip is_separator ts)) (skip is_separator ts)));
}

within_script-none : (bodies : Bodies) → (n : ℕ) (now : List Token) → chain (command bodies nest_limit) now ≡ None → chains_within (command bodies nest_limit) n now ≡ None
within_script-none bodies zero now e = refl
within_script-none bodies (suc n) now e = rw e

pub script-none : (bodies : Bodies) → (found : Option (Option Chains)) (xs : List Chain) (now : List Token) → ScriptSoFar bodies found xs now → chain (command bodies nest_limit) now ≡ None → found ≡ None
script-none bodies found xs now s e = s.same ∙ ap (script_before xs) (within_script-none bodies s.n now e)

pub script-ends : (bodies : Bodies) → (found : Option (Option Chains)) (xs : List Chain) (c : Chain) (now m : List Token) → ScriptSoFar bodies found xs now → chain (command bodies nest_limit) now ≡ Some (c, m) → is_end (skip is_separator m) ≡ true → found ≡ Some (Some (chains_from (xs ++ c ∷ [])))
script-ends bodies found xs c now m s e h =
    let turn = script-turn bodies s.n c now m s.short e in
    s.same ∙ ap (λ k. script_before xs (chains_within (command bodies nest_limit) k now)) turn.1 ∙ rw (e, h, chains_before-last xs c)

pub script-unseparated : (bodies : Bodies) → (found : Option (Option Chains)) (xs : List Chain) (c : Chain) (now m : List Token) → ScriptSoFar bodies found xs now → chain (command bodies nest_limit) now ≡ Some (c, m) → is_end (skip is_separator m) ≡ false → begins is_separator m ≡ false → found ≡ None
script-unseparated bodies found xs c now m s e h g =
    let turn = script-turn bodies s.n c now m s.short e in
    s.same ∙ ap (λ k. script_before xs (chains_within (command bodies nest_limit) k now)) turn.1 ∙ rw (e, h, g)

pub script-goes_on : (bodies : Bodies) → (found : Option (Option Chains)) (xs : List Chain) (c : Chain) (now m : List Token) → ScriptSoFar bodies found xs now → chain (command bodies nest_limit) now ≡ Some (c, m) → is_end (skip is_separator m) ≡ false → begins is_separator m ≡ true → ScriptSoFar bodies found (xs ++ c ∷ []) (skip is_separator m)
script-goes_on bodies found xs c now m s e h g =
    let turn = script-turn bodies s.n c now m s.short e in
    let shorter = chain-shorter bodies nest_limit now m c e in
    let skipped = skip-begun is_separator m g in
    let short = s.short in
    let is = turn.1 in
    record {
      n = turn.0;
      short = omega arith;
      same = s.same ∙ ap (λ k. script_before xs (chains_within (command bodies nest_limit) k now)) turn.1 ∙ rw (e, h, g) (script_before-push xs c (chains_within (command bodies nest_limit) turn.0 (skip is_separator m)));
    }
