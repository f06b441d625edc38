-- Where tokens lead from the positions in and behind a list.
use Rattle.std.proofs.Common.{◌≡◌, ℕ, Bool, true, false, List, [], ◌∷◌, refl, sym, ◌∙◌, ap, Option, Some, None, is_some, Ok, Err, if◌then◌else◌}
use Rattle.hush_words.specs.Words.{Atom}
use Rattle.hush_words.specs.Forms.{assignment_of}
use Rattle.hush_words.specs.Tokens.{Token}
use Rattle.hush_words.specs.Tokens.Token.{Word, Newline, Semicolon, AndIf, OrIf}
use Rattle.hush_words.specs.Faults.{Placed}
use Rattle.hush_syntax.specs.declared.keywords.Keyword.{Keyword}
use Rattle.hush_syntax.specs.declared.nodes.Bodies.{Bodies}
use Rattle.hush_syntax.specs.declared.positions.Ahead.{Ahead}
use Rattle.hush_syntax.specs.declared.positions.Ahead.TheVariants as ahead
use Rattle.hush_syntax.specs.declared.positions.Form.{Form}
use Rattle.hush_syntax.specs.Grammar.{begins, is_separator}
use Rattle.hush_syntax.specs.Halts.{Position, Step, begun, ended_in, goes, may_end, position, reserved, step_on, unexpected}
use Rattle.hush_syntax.specs.Keywords.{keyword_of}
use Rattle.hush_syntax.specs.Reading.{is_closing, closes, skip}
use Rattle.hush_syntax.proofs.Fronts.{by_test, closes-some}
use Rattle.hush_syntax.proofs.Readers.{by_option}
use Rattle.hush_syntax.proofs.Stuck.{stuck, stuck-on, tokens}

-- a first word that isn't reserved, and one that is
pub begun-plain : (bodies : Bodies) (p : Position) (place : ℕ) (w : List Atom) → keyword_of w ≡ None →
    begun bodies p place w ≡ goes p (if is_some (assignment_of w) then ahead.Assigned else ahead.Words)
begun-plain bodies p place w e =
    ap (λ (o : Option Keyword). elim o as (λ _. Step) [ None ↦ goes p (if is_some (assignment_of w) then ahead.Assigned else ahead.Words) | Some k ↦ reserved bodies p place k ]) e

pub begun-reserved : (bodies : Bodies) (p : Position) (place : ℕ) (w : List Atom) (k : Keyword) → keyword_of w ≡ Some k →
    begun bodies p place w ≡ reserved bodies p place k
begun-reserved bodies p place w k e =
    ap (λ (o : Option Keyword). elim o as (λ _. Step) [ None ↦ goes p (if is_some (assignment_of w) then ahead.Assigned else ahead.Words) | Some k ↦ reserved bodies p place k ]) e

-- a word that may not end a list here, and one that may
pub reserved-early : (bodies : Bodies) (p : Position) (place : ℕ) (k : Keyword) → is_closing k ≡ true → may_end bodies p.ahead k ≡ false → reserved bodies p place k ≡ unexpected
reserved-early bodies p place k closing early = rw (closing, early) refl

pub reserved-ends : (bodies : Bodies) (p : Position) (place : ℕ) (k : Keyword) → is_closing k ≡ true → may_end bodies p.ahead k ≡ true → reserved bodies p place k ≡ ended_in p.forms k
reserved-ends bodies p place k closing may = rw (closing, may) refl

-- where a list begins or goes on
abbrev pub is_listed : Ahead → Bool
is_listed ahead.Start = true
is_listed ahead.Body = true
is_listed ahead.More = true
is_listed next = false

pub on-listed : (bodies : Bodies) (forms : List Form) (a : Ahead) (place : ℕ) (w : List Atom) → is_listed a ≡ true →
    step_on bodies (position forms a) place (Word w) ≡ begun bodies (position forms a) place w
on-listed bodies forms ahead.Start place w e = refl
on-listed bodies forms ahead.Body place w e = refl
on-listed bodies forms ahead.More place w e = refl
on-listed bodies forms ahead.Then place w e = absurd (let no : false ≡ true = e in cc)
on-listed bodies forms ahead.Operand place w e = absurd (let no : false ≡ true = e in cc)
on-listed bodies forms ahead.Words place w e = absurd (let no : false ≡ true = e in cc)
on-listed bodies forms ahead.Assigned place w e = absurd (let no : false ≡ true = e in cc)
on-listed bodies forms ahead.Closed place w e = absurd (let no : false ≡ true = e in cc)
on-listed bodies forms ahead.Name place w e = absurd (let no : false ≡ true = e in cc)
on-listed bodies forms ahead.In place w e = absurd (let no : false ≡ true = e in cc)
on-listed bodies forms ahead.List place w e = absurd (let no : false ≡ true = e in cc)
on-listed bodies forms ahead.Do place w e = absurd (let no : false ≡ true = e in cc)

pub off-listed : (bodies : Bodies) (forms : List Form) (a : Ahead) (place : ℕ) → is_listed a ≡ true →
    (step_on bodies (position forms a) place AndIf ≡ unexpected) × (step_on bodies (position forms a) place OrIf ≡ unexpected)
off-listed bodies forms ahead.Start place e = (refl, refl)
off-listed bodies forms ahead.Body place e = (refl, refl)
off-listed bodies forms ahead.More place e = (refl, refl)
off-listed bodies forms ahead.Then place e = absurd (let no : false ≡ true = e in cc)
off-listed bodies forms ahead.Operand place e = absurd (let no : false ≡ true = e in cc)
off-listed bodies forms ahead.Words place e = absurd (let no : false ≡ true = e in cc)
off-listed bodies forms ahead.Assigned place e = absurd (let no : false ≡ true = e in cc)
off-listed bodies forms ahead.Closed place e = absurd (let no : false ≡ true = e in cc)
off-listed bodies forms ahead.Name place e = absurd (let no : false ≡ true = e in cc)
off-listed bodies forms ahead.In place e = absurd (let no : false ≡ true = e in cc)
off-listed bodies forms ahead.List place e = absurd (let no : false ≡ true = e in cc)
off-listed bodies forms ahead.Do place e = absurd (let no : false ≡ true = e in cc)

module _ (bodies : Bodies) (whole : Bool) where
  -- the same step from two positions
  pub alike : (p q : Position) (place : ℕ) (t : Token) (ts : List Placed) → step_on bodies p place t ≡ step_on bodies q place t →
      stuck bodies whole p ((place, t) ∷ ts) ≡ stuck bodies whole q ((place, t) ∷ ts)
  alike p q place t ts e = ap (λ (s : Step). elim s as (λ _. Bool) [ Ok r ↦ stuck bodies whole r ts | Err kind ↦ true ]) e

  -- where a list begins or goes on, and no list may end and no separator comes, a command has to come
  pub due : (f : Form) (forms : List Form) (a : Ahead) (ps : List Placed) → is_listed a ≡ true → begins is_separator (tokens ps) ≡ false →
      ((k : Keyword) → closes (tokens ps) ≡ true → may_end bodies a k ≡ false) →
      stuck bodies whole (position (f ∷ forms) a) ps ≡ stuck bodies whole (position (f ∷ forms) ahead.Operand) ps
  due f forms a [] listed none early = refl
  due f forms a ((place, Word w) ∷ ps) listed none early =
      alike (position (f ∷ forms) a) (position (f ∷ forms) ahead.Operand) place (Word w) ps
      (on-listed bodies (f ∷ forms) a place w listed
      ∙ by_option (keyword_of w)
      (λ h. begun-plain bodies (position (f ∷ forms) a) place w h ∙ sym (begun-plain bodies (position (f ∷ forms) ahead.Operand) place w h))
      (λ k h.
      begun-reserved bodies (position (f ∷ forms) a) place w k h
      ∙ by_test (is_closing k)
      (λ c.
      reserved-early bodies (position (f ∷ forms) a) place k c (early k (closes-some (Word w ∷ tokens ps) k h ∙ c))
      ∙ sym (reserved-early bodies (position (f ∷ forms) ahead.Operand) place k c refl))
      (λ c. rw c refl)
      ∙ sym (begun-reserved bodies (position (f ∷ forms) ahead.Operand) place w k h)))
  due f forms a ((place, Newline) ∷ ps) listed none early = absurd (let no : true ≡ false = none in cc)
  due f forms a ((place, Semicolon) ∷ ps) listed none early = absurd (let no : true ≡ false = none in cc)
  due f forms a ((place, AndIf) ∷ ps) listed none early =
      alike (position (f ∷ forms) a) (position (f ∷ forms) ahead.Operand) place AndIf ps ((off-listed bodies (f ∷ forms) a place listed).0)
  due f forms a ((place, OrIf) ∷ ps) listed none early =
      alike (position (f ∷ forms) a) (position (f ∷ forms) ahead.Operand) place OrIf ps ((off-listed bodies (f ∷ forms) a place listed).1)

  -- separators lead nowhere else there
  listed-stays : (forms : List Form) (a : Ahead) → is_listed a ≡ true → (place : ℕ) →
      (step_on bodies (position forms a) place Newline ≡ Ok (position forms a)) × (step_on bodies (position forms a) place Semicolon ≡ Ok (position forms a))
  listed-stays forms ahead.Start e place = (refl, refl)
  listed-stays forms ahead.Body e place = (refl, refl)
  listed-stays forms ahead.More e place = (refl, refl)
  listed-stays forms ahead.Then e place = absurd (let no : false ≡ true = e in cc)
  listed-stays forms ahead.Operand e place = absurd (let no : false ≡ true = e in cc)
  listed-stays forms ahead.Words e place = absurd (let no : false ≡ true = e in cc)
  listed-stays forms ahead.Assigned e place = absurd (let no : false ≡ true = e in cc)
  listed-stays forms ahead.Closed e place = absurd (let no : false ≡ true = e in cc)
  listed-stays forms ahead.Name e place = absurd (let no : false ≡ true = e in cc)
  listed-stays forms ahead.In e place = absurd (let no : false ≡ true = e in cc)
  listed-stays forms ahead.List e place = absurd (let no : false ≡ true = e in cc)
  listed-stays forms ahead.Do e place = absurd (let no : false ≡ true = e in cc)

  -- what is left behind tokens that lead nowhere else
  abbrev pub Skips : Position → (Token → Bool) → List Placed → Type 0
  Skips p test ps = (left : List Placed) × (tokens left ≡ skip test (tokens ps)) × (stuck bodies whole p ps ≡ stuck bodies whole p left)

  pub skipped : (p : Position) (test : Token → Bool) (place : ℕ) (t : Token) (ps : List Placed) → test t ≡ true → step_on bodies p place t ≡ Ok p → Skips p test ps → Skips p test ((place, t) ∷ ps)
  skipped p test place t ps passes stays s = (s.0, s.1 ∙ sym (rw passes refl), stuck-on bodies whole p p place t ps stays ∙ s.2)

  pub stopped : (p : Position) (test : Token → Bool) (place : ℕ) (t : Token) (ps : List Placed) → test t ≡ false → Skips p test ((place, t) ∷ ps)
  stopped p test place t ps stops = ((place, t) ∷ ps, rw stops refl, refl)

  pub over-separators : (forms : List Form) (a : Ahead) → is_listed a ≡ true → (ps : List Placed) → Skips (position forms a) is_separator ps
  over-separators forms a listed [] = ([], refl, refl)
  over-separators forms a listed ((place, Word w) ∷ ps) = stopped (position forms a) is_separator place (Word w) ps refl
  over-separators forms a listed ((place, Newline) ∷ ps) =
      skipped (position forms a) is_separator place Newline ps refl ((listed-stays forms a listed place).0) (over-separators forms a listed ps)
  over-separators forms a listed ((place, Semicolon) ∷ ps) =
      skipped (position forms a) is_separator place Semicolon ps refl ((listed-stays forms a listed place).1) (over-separators forms a listed ps)
  over-separators forms a listed ((place, AndIf) ∷ ps) = stopped (position forms a) is_separator place AndIf ps refl
  over-separators forms a listed ((place, OrIf) ∷ ps) = stopped (position forms a) is_separator place OrIf ps refl
