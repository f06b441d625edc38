-- Whether a text stops being a script, by the tokens from a position on, and what readers of tokens say of it.
use Rattle.std.proofs.Common.{◌≡◌, ℕ, ◌&&◌, Bool, true, false, not, List, [], ◌∷◌, map, refl, sym, ◌∙◌, ap, subst, Option, Some, None, is_some, Ok, Err}
use Rattle.hush_words.specs.Words.Atom.{Plain}
use Rattle.hush_words.specs.Tokens.{Token}
use Rattle.hush_words.specs.Tokens.Token.{Word}
use Rattle.hush_words.specs.Faults.{Placed}
use Rattle.hush_syntax.specs.declared.keywords.Keyword.{Keyword}
use Rattle.hush_syntax.specs.declared.nodes.Bodies.{Bodies}
use Rattle.hush_syntax.specs.declared.positions.Halt.{Halt}
use Rattle.hush_syntax.specs.declared.syntax_fault.FaultKind.{FaultKind}
use Rattle.hush_syntax.specs.declared.syntax_fault.SyntaxFault.{SyntaxFault}
use Rattle.hush_syntax.specs.Halts.{Position, Step, halt_at, is_whole, run, step_on}
use Rattle.hush_syntax.specs.Keywords.{spelling}
use Rattle.hush_syntax.specs.Reading.{Reader, bind, ◌into◌, behind, is_closing, closes, keyword_at}
use Rattle.hush_syntax.proofs.Fronts.{and-false, by_test, closes-none, closes-some}
use Rattle.hush_syntax.proofs.Forms.{FormsAreTold, keyword_at-some}
use Rattle.hush_syntax.proofs.HaltLemmas.{halts-at, run-off, run-on}
use Rattle.hush_syntax.proofs.Readers.{by_option}

abbrev pub token : Placed → Token
token p = p.1

abbrev pub tokens : List Placed → List Token
tokens ps = map token ps

-- the tokens that spell the same, with their places
pub front : (ps : List Placed) (t : Token) (rest : List Token) → tokens ps ≡ t ∷ rest →
    (place : ℕ) × (more : List Placed) × (ps ≡ (place, t) ∷ more) × (tokens more ≡ rest)
front [] t rest e = absurd (let no : ◌≡◌ {A = List Token} [] (t ∷ rest) = e in cc)
front ((place, u) ∷ more) t rest e =
    let lists : ◌≡◌ {A = List Token} (u ∷ tokens more) (t ∷ rest) = e in
    let heads : u ≡ t = cc in
    let tails : tokens more ≡ rest = cc in
    (place, more, ap (λ (x : Token). (place, x) ∷ more) heads, tails)

-- the front of tokens that end a list
pub closer : FormsAreTold → (ps : List Placed) → closes (tokens ps) ≡ true →
    (k : Keyword) × (place : ℕ) × (more : List Placed) × (is_closing k ≡ true) × (ps ≡ (place, Word (map Plain (spelling k))) ∷ more)
closer told ps e =
    by_option (keyword_at (tokens ps))
    (λ h. absurd (let no : false ≡ true = sym (closes-none (tokens ps) h) ∙ e in cc))
    (λ k h.
    let f = front ps (Word (map Plain (spelling k))) (behind (tokens ps)) (keyword_at-some told (tokens ps) k h) in
    (k, f.0, f.1, sym (closes-some (tokens ps) k h) ∙ e, f.2))

module _ (bodies : Bodies) (whole : Bool) where
  -- the tokens from a position on are no script's
  abbrev pub stuck : Position → List Placed → Bool
  stuck p [] = not (is_whole p && whole)
  stuck p ((place, t) ∷ ts) =
      elim (step_on bodies p place t) [
        | Ok q ↦ stuck q ts
        | Err kind ↦ true
      ]

  pub stuck-on : (p q : Position) (place : ℕ) (t : Token) (ts : List Placed) → step_on bodies p place t ≡ Ok q → stuck p ((place, t) ∷ ts) ≡ stuck q ts
  stuck-on p q place t ts e = ap (λ (s : Step). elim s as (λ _. Bool) [ Ok q ↦ stuck q ts | Err kind ↦ true ]) e

  pub stuck-off : (p : Position) (place : ℕ) (t : Token) (ts : List Placed) (kind : FaultKind) → step_on bodies p place t ≡ Err kind → stuck p ((place, t) ∷ ts) ≡ true
  stuck-off p place t ts kind e = ap (λ (s : Step). elim s as (λ _. Bool) [ Ok q ↦ stuck q ts | Err kind ↦ true ]) e

  by_step : {P : Type 0} (s : Step) → ((q : Position) → s ≡ Ok q → P) → ((kind : FaultKind) → s ≡ Err kind → P) → P
  by_step (Ok q) on off = on q refl
  by_step (Err kind) on off = off kind refl

  halts-end : (end : SyntaxFault) (p : Position) → is_some (halt_at bodies whole end (p, [])) ≡ not (is_whole p && whole)
  halts-end end p = by_test (is_whole p && whole) (λ h. rw h refl) (λ h. rw h refl)

  pub halts-stuck : (end : SyntaxFault) (p : Position) (ts : List Placed) → is_some (halt_at bodies whole end (run bodies p ts)) ≡ stuck p ts
  unfolding run
  halts-stuck end p [] = halts-end end p
  halts-stuck end p ((place, t) ∷ ts) =
      by_step (step_on bodies p place t)
      (λ q e. ap (λ r. is_some (halt_at bodies whole end r)) (run-on bodies p q place t ts e) ∙ halts-stuck end q ts ∙ sym (stuck-on p q place t ts e))
      (λ kind e.
      ap (λ r. is_some (halt_at bodies whole end r)) (run-off bodies p place t ts kind e)
      ∙ ap (λ (o : Option Halt). is_some o) (halts-at bodies whole end p place t ts kind e) ∙ sym (stuck-off p place t ts kind e))

  -- a text that goes on behind its tokens
  pub stuck-short : whole ≡ false → (p : Position) (ts : List Placed) → stuck p ts ≡ true
  stuck-short short p [] = rw (and-false (is_whole p) whole short) refl
  stuck-short short p ((place, t) ∷ ts) =
      by_step (step_on bodies p place t)
      (λ q e. stuck-on p q place t ts e ∙ stuck-short short q ts)
      (λ kind e. stuck-off p place t ts kind e)

  -- a reader found what leads to a position; or found nothing, and the tokens are stuck
  abbrev pub Reaches : {X : Type 0} → (is_stuck : Bool) → Position → Option (X × List Token) → Type 0
  Reaches is_stuck to None = is_stuck ≡ true
  Reaches is_stuck to (Some (x, r)) = (left : List Placed) × (tokens left ≡ r) × (is_stuck ≡ stuck to left)

  -- from a position on
  abbrev pub Follows : {X : Type 0} → Position → Position → List Placed → Option (X × List Token) → Type 0
  Follows from to ps o = Reaches (stuck from ps) to o

  pub reaches-is : {X : Type 0} (a b : Bool) (to : Position) (o : Option (X × List Token)) → a ≡ b → Reaches b to o → Reaches a to o
  reaches-is a b to None e f = e ∙ f
  reaches-is a b to (Some (x, r)) e f = (f.0, f.1, e ∙ f.2)

  pub follows-from : {X : Type 0} (from mid to : Position) (ps left : List Placed) (o : Option (X × List Token)) → stuck from ps ≡ stuck mid left → Follows mid to left o → Follows from to ps o
  follows-from from mid to ps left o e f = reaches-is (stuck from ps) (stuck mid left) to o e f

  follows-bind : {X Y : Type 0} (from mid to : Position) (ps : List Placed) (o all : Option (X × List Token)) (q : X → Reader Y) → all ≡ o → Follows from mid ps o →
      ((x : X) (left : List Placed) → all ≡ Some (x, tokens left) → Follows mid to left (q x (tokens left))) →
      Follows from to ps (bind o (λ x. q x.0 x.1))
  follows-bind from mid to ps None all q e f more = f
  follows-bind {X} from mid to ps (Some (x, r)) all q e f more =
      let same : ◌≡◌ {A = Option (X × List Token)} (Some (x, r)) (Some (x, tokens f.0)) = ap (λ (s : List Token). let o : Option (X × List Token) = Some (x, s) in o) (sym f.1) in
      follows-from from mid to ps f.0 (q x r) f.2 (subst (λ s. Follows mid to f.0 (q x s)) f.1 (more x f.0 (e ∙ same)))

  -- one reader after another
  pub follows-into : {X Y : Type 0} (from mid to : Position) (ps : List Placed) (p : Reader X) (q : X → Reader Y) → Follows from mid ps (p (tokens ps)) →
      ((x : X) (left : List Placed) → p (tokens ps) ≡ Some (x, tokens left) → Follows mid to left (q x (tokens left))) →
      Follows from to ps ((p into q) (tokens ps))
  follows-into from mid to ps p q f more = follows-bind from mid to ps (p (tokens ps)) (p (tokens ps)) q refl f more

  pub follows-mapped : {X Y : Type 0} (from to : Position) (ps : List Placed) (f : X → Y) (o : Option (X × List Token)) → Follows from to ps o → Follows from to ps (bind o (λ x. Some (f x.0, x.1)))
  follows-mapped from to ps f None h = h
  follows-mapped from to ps f (Some (x, r)) h = h

  pub follows-is : {X : Type 0} (from to : Position) (ps : List Placed) (o other : Option (X × List Token)) → o ≡ other → Follows from to ps other → Follows from to ps o
  follows-is {X} from to ps o other e f = subst (λ (o : Option (X × List Token)). Follows from to ps o) (sym e) f
