-- A text stops being a script somewhere exactly if it spells none.
use Rattle.std.proofs.Common.{◌≡◌, ℕ, ◌==◌, ◌≤◌, Bool, true, false, not, List, [], ◌∷◌, length, refl, sym, ◌∙◌, ap, arith, le_refl, Option, Some, None, is_some, suc, zero, if◌then◌else◌}
use Rattle.std.proofs.lemmas.Bool.{both_ways}
use Rattle.hush_words.specs.Tokens.{Token, has_no_nul}
use Rattle.hush_words.specs.Tokens.Token.{Word, Newline, Semicolon, AndIf, OrIf}
use Rattle.hush_words.specs.Faults.{Placed, placed_tokens}
use Rattle.hush_words.specs.Reading.{lexeme_end}
use Rattle.hush_words.proofs.TextLemmas.{nul-read}
use Rattle.hush_syntax.specs.declared.keywords.Keyword.{Keyword}
use Rattle.hush_syntax.specs.declared.nodes.Bodies.{Bodies}
use Rattle.hush_syntax.specs.declared.positions.Ahead.{Ahead}
use Rattle.hush_syntax.specs.declared.positions.Ahead.TheVariants as ahead
use Rattle.hush_syntax.specs.declared.positions.Halt.{Halt}
use Rattle.hush_syntax.specs.Faults.{end_fault}
use Rattle.hush_syntax.specs.Grammar.{Chain, Chains, Last, More, begins, is_separator, nest_limit}
use Rattle.hush_syntax.specs.Halts.{halt_in, may_end, position, reserved, run, start}
use Rattle.hush_syntax.specs.Keywords.{keyword_of}
use Rattle.hush_syntax.specs.Laws.{HaltsAreTold}
use Rattle.hush_syntax.specs.Reading.{bind, chain, chains_within, command, is_closing, is_end, operator_at, read_in, script_in, skip}
use Rattle.hush_syntax.proofs.Fronts.{by_test, skip-stops}
use Rattle.hush_syntax.proofs.Forms.{FormsAreTold}
use Rattle.hush_syntax.proofs.HaltForms.{commands-follow}
use Rattle.hush_syntax.proofs.HaltLemmas.{halts-in}
use Rattle.hush_syntax.proofs.HaltLists.{chain-follows}
use Rattle.hush_syntax.proofs.InLists.{alike, begun-plain, begun-reserved, is_listed, off-listed, on-listed, over-separators}
use Rattle.hush_syntax.proofs.ListEnds.{chain-ends, no-newline}
use Rattle.hush_syntax.proofs.Readers.{by_option}
use Rattle.hush_syntax.proofs.Shorter.{chain-shorter, command-shorter, skip-begun}
use Rattle.hush_syntax.proofs.Stuck.{Reaches, halts-stuck, stuck, stuck-short, tokens}
use Rattle.hush_syntax.proofs.Told.{read_stopped, read_to_end, read_to_fault}
use Rattle.hush_syntax.proofs.WordScans.{all-told}

no-tokens : (ps : List Placed) → is_end (tokens ps) ≡ true → ps ≡ []
no-tokens [] e = refl
no-tokens (p ∷ ps) e = absurd (let no : false ≡ true = e in cc)

some-bind : {X Y : Type 0} (o : Option X) (f : X → Y) → is_some (bind o (λ x. Some (f x))) ≡ is_some o
some-bind None f = refl
some-bind (Some x) f = refl

-- of a text that ends where its tokens do
module _ (told : FormsAreTold) (bodies : Bodies) where
  abbrev is_stuck : Ahead → List Placed → Bool
  is_stuck a ps = stuck bodies true (position [] a) ps

  listed-ends : (a : Ahead) → is_listed a ≡ true → is_stuck a [] ≡ false → (ps : List Placed) → is_end (skip is_separator (tokens ps)) ≡ true → is_stuck a ps ≡ false
  listed-ends a listed whole ps e =
      let s = over-separators bodies true [] a listed ps in
      s.2 ∙ ap (is_stuck a) (no-tokens s.0 (ap is_end s.1 ∙ e)) ∙ whole

  closed-ends : (ps : List Placed) → is_end (skip is_separator (tokens ps)) ≡ true → is_stuck ahead.Closed ps ≡ false
  closed-ends [] e = refl
  closed-ends ((place, Word w) ∷ ps) e = absurd (let no : false ≡ true = e in cc)
  closed-ends ((place, Newline) ∷ ps) e = listed-ends ahead.More refl refl ps e
  closed-ends ((place, Semicolon) ∷ ps) e = listed-ends ahead.More refl refl ps e
  closed-ends ((place, AndIf) ∷ ps) e = absurd (let no : false ≡ true = e in cc)
  closed-ends ((place, OrIf) ∷ ps) e = absurd (let no : false ≡ true = e in cc)

  closed-on : (ps : List Placed) → begins is_separator (tokens ps) ≡ true →
      (left : List Placed) × (tokens left ≡ skip is_separator (tokens ps)) × (is_stuck ahead.Closed ps ≡ is_stuck ahead.More left)
  closed-on [] e = absurd (let no : false ≡ true = e in cc)
  closed-on ((place, Word w) ∷ ps) e = absurd (let no : false ≡ true = e in cc)
  closed-on ((place, Newline) ∷ ps) e = over-separators bodies true [] ahead.More refl ps
  closed-on ((place, Semicolon) ∷ ps) e = over-separators bodies true [] ahead.More refl ps
  closed-on ((place, AndIf) ∷ ps) e = absurd (let no : false ≡ true = e in cc)
  closed-on ((place, OrIf) ∷ ps) e = absurd (let no : false ≡ true = e in cc)

  closed-off : (ps : List Placed) → is_end (skip is_separator (tokens ps)) ≡ false → begins is_separator (tokens ps) ≡ false → operator_at (tokens ps) ≡ None →
      is_stuck ahead.Closed ps ≡ true
  closed-off [] e none o = absurd (let no : true ≡ false = e in cc)
  closed-off ((place, Word w) ∷ ps) e none o = refl
  closed-off ((place, Newline) ∷ ps) e none o = absurd (let no : true ≡ false = none in cc)
  closed-off ((place, Semicolon) ∷ ps) e none o = absurd (let no : true ≡ false = none in cc)
  closed-off ((place, AndIf) ∷ ps) e none o = absurd (let no = o in cc)
  closed-off ((place, OrIf) ∷ ps) e none o = absurd (let no = o in cc)

  -- no form is open that a word might end
  reserved-bare : (a : Ahead) (place : ℕ) (k : Keyword) → reserved bodies (position [] a) place k ≡ reserved bodies (position [] ahead.Operand) place k
  reserved-bare a place k =
      by_test (is_closing k) (λ c. by_test (may_end bodies a k) (λ m. rw (c, m) refl) (λ m. rw (c, m) refl)) (λ c. rw c refl)

  due-bare : (a : Ahead) → is_listed a ≡ true → (ps : List Placed) → begins is_separator (tokens ps) ≡ false → is_end (tokens ps) ≡ false →
      is_stuck a ps ≡ is_stuck ahead.Operand ps
  due-bare a listed [] none more = absurd (let no : true ≡ false = more in cc)
  due-bare a listed ((place, Word w) ∷ ps) none more =
      let p = position [] a in
      let q = position [] ahead.Operand in
      alike bodies true p q place (Word w) ps
      (on-listed bodies [] a place w listed
      ∙ by_option (keyword_of w)
      (λ h. begun-plain bodies p place w h ∙ sym (begun-plain bodies q place w h))
      (λ k h. begun-reserved bodies p place w k h ∙ reserved-bare a place k ∙ sym (begun-reserved bodies q place w k h)))
  due-bare a listed ((place, Newline) ∷ ps) none more = absurd (let no : true ≡ false = none in cc)
  due-bare a listed ((place, Semicolon) ∷ ps) none more = absurd (let no : true ≡ false = none in cc)
  due-bare a listed ((place, AndIf) ∷ ps) none more =
      alike bodies true (position [] a) (position [] ahead.Operand) place AndIf ps ((off-listed bodies [] a place listed).0)
  due-bare a listed ((place, OrIf) ∷ ps) none more =
      alike bodies true (position [] a) (position [] ahead.Operand) place OrIf ps ((off-listed bodies [] a place listed).1)

  -- what is read behind a chain
  abbrev behind_chain : ℕ → Chain × List Token → Option Chains
  behind_chain m c =
      if is_end (skip is_separator c.1) then Some (Last c.0)
      else (if begins is_separator c.1 then bind (chains_within (command bodies nest_limit) m (skip is_separator c.1)) (λ cs. Some (More c.0 cs))
      else None)

  on-chain : (m : ℕ) (ps : List Placed) (all o : Option (Chain × List Token)) → all ≡ o → Reaches bodies true (is_stuck ahead.Operand ps) (position [] ahead.Closed) o →
      ((c : Chain) (left : List Placed) → all ≡ Some (c, tokens left) → is_stuck ahead.Closed left ≡ not (is_some (behind_chain m (c, tokens left)))) →
      is_stuck ahead.Operand ps ≡ not (is_some (bind o (behind_chain m)))
  on-chain m ps all None e f more = f
  on-chain m ps all (Some (c, r)) e f more =
      f.2 ∙ more c f.0 (e ∙ ap (λ (s : List Token). Some (c, s)) (sym f.1)) ∙ ap (λ s. not (is_some (behind_chain m (c, s)))) f.1

  chains-tell : (m : ℕ) (ps : List Placed) → length (tokens ps) ≤ m → begins is_separator (tokens ps) ≡ false →
      is_stuck ahead.Operand ps ≡ not (is_some (chains_within (command bodies nest_limit) m (tokens ps)))
  chains-tell zero [] short none = refl
  chains-tell zero (p ∷ ps) short none = absurd (omega (arith, short))
  chains-tell (suc m) ps short none =
      let found = chain (command bodies nest_limit) (tokens ps) in
      on-chain m ps found found refl
      (chain-follows bodies true nest_limit (commands-follow told bodies true nest_limit) [] refl ps (no-newline (tokens ps) none))
      (λ c left e.
      by_test (is_end (skip is_separator (tokens left)))
      (λ h. rw h (closed-ends left h))
      (λ h.
      by_test (begins is_separator (tokens left))
      (λ g.
      let s = closed-on left g in
      let few : length (tokens s.0) ≤ m =
      omega (arith, chain-shorter bodies nest_limit (tokens ps) (tokens left) c e, skip-begun is_separator (tokens left) g, ap length s.1) in
      let over : begins is_separator (tokens s.0) ≡ false = ap (begins is_separator) s.1 ∙ skip-stops is_separator (tokens left) in
      rw (h, g)
      (s.2 ∙ due-bare ahead.More refl s.0 over (ap is_end s.1 ∙ h) ∙ chains-tell m s.0 few over
      ∙ ap (λ ts. not (is_some (chains_within (command bodies nest_limit) m ts))) s.1
      ∙ ap not (sym (some-bind (chains_within (command bodies nest_limit) m (skip is_separator (tokens left))) (More c)))))
      (λ g.
      rw (h, g)
      (closed-off left h g (chain-ends bodies (command bodies nest_limit) (command-shorter bodies nest_limit) (tokens ps) (tokens left) c e)))))

  script-tells : (ps : List Placed) → is_stuck ahead.Start ps ≡ not (is_some (script_in bodies (tokens ps)))
  script-tells ps =
      let s = over-separators bodies true [] ahead.Start refl ps in
      let rest = skip is_separator (tokens ps) in
      let over : begins is_separator (tokens s.0) ≡ false = ap (begins is_separator) s.1 ∙ skip-stops is_separator (tokens ps) in
      by_test (is_end rest)
      (λ h. rw h (listed-ends ahead.Start refl refl ps h))
      (λ h.
      rw h
      (s.2 ∙ due-bare ahead.Start refl s.0 over (ap is_end s.1 ∙ h) ∙ chains-tell (length (tokens s.0)) s.0 (le_refl (length (tokens s.0))) over
      ∙ ap (λ ts. not (is_some (chains_within (command bodies nest_limit) (length ts) ts))) s.1
      ∙ ap not (sym (some-bind (chains_within (command bodies nest_limit) (length rest) rest) (λ cs. Some cs)))))

-- ---- texts

none-exactly : {X : Type 0} (o : Option X) (b : Bool) → b ≡ not (is_some o) → (o ≡ None → b ≡ true) × (b ≡ true → o ≡ None)
none-exactly None b e = (λ _. e, λ _. refl)
none-exactly {X} (Some x) b e = (λ n. absurd (let no : ◌≡◌ {A = Option X} (Some x) None = n in cc), λ t. absurd (both_ways b e t))

pub halts-told : FormsAreTold → HaltsAreTold
unfolding halt_in
halts-told told bodies text =
    by_test (has_no_nul text)
    (λ clean.
    let whole = length (lexeme_end text) == 0 in
    let ps = placed_tokens text in
    let halted : is_some (halt_in bodies text) ≡ stuck bodies whole start ps =
    ap (λ (o : Option Halt). is_some o) (halts-in bodies text (run bodies start ps) clean refl) ∙ halts-stuck bodies whole (end_fault text) start ps in
    by_test whole
    (λ ends.
    none-exactly (read_in bodies text) (is_some (halt_in bodies text))
    (halted ∙ ap (λ w. stuck bodies w start ps) ends ∙ script-tells told bodies ps
    ∙ ap (λ ts. not (is_some (script_in bodies ts))) (all-told text)
    ∙ ap (λ o. not (is_some o)) (sym (read_to_end bodies text clean ends))))
    (λ short.
    none-exactly (read_in bodies text) (is_some (halt_in bodies text))
    (halted ∙ stuck-short bodies whole short start ps ∙ ap (λ o. not (is_some o)) (sym (read_to_fault bodies text clean short)))))
    (λ nul.
    none-exactly (read_in bodies text) (is_some (halt_in bodies text))
    ((rw nul refl) ∙ ap (λ o. not (is_some o)) (sym (read_stopped bodies text (nul-read text nul)))))
