-- What the tokens of a text have of the words of its commands, and those that are passed.
use Rattle.std.specs.Prelude.{◌≡◌, ℕ, ◌+◌, ◌≤◌, true, false, List, [], ◌∷◌, ◌++◌, map, length, drop, Option, Some, None, Result, Ok, Err}
use Rattle.std.specs.List.{flat_map, list_all}
use Rattle.std.proofs.Common.{refl, sym, ◌∙◌, ap, arith, length-append}
use Rattle.std.proofs.lemmas.List.{append_cancel_right, length-map, map-append}
use Rattle.hush_words.specs.Words.{Atom}
use Rattle.hush_words.specs.Forms.{assignment_of}
use Rattle.hush_words.specs.Tokens.{Token, Lexeme, lexeme_text, lexeme_tokens}
use Rattle.hush_words.specs.Tokens.Token.{Word, Newline, Semicolon, AndIf, OrIf}
use Rattle.hush_words.specs.Parts.{Written}
use Rattle.hush_words.specs.Reading.{all, lexeme_at, tokens_left}
use Rattle.hush_words.specs.Faults.{Placed, placed, placed_left}
use Rattle.hush_words.specs.Views.{kind_token}
use Rattle.hush_words.specs.declared.tokens.Token as code
use Rattle.hush_syntax.specs.declared.cursor.Tokens.{Tokens}
use Rattle.hush_syntax.specs.declared.keywords.Keyword.{Keyword}
use Rattle.hush_syntax.specs.declared.nodes.Operator.{Operator}
use Rattle.hush_syntax.specs.declared.syntax_fault.SyntaxFault.{SyntaxFault}
use Rattle.hush_syntax.specs.Answers.{IsAt, left_in, placed_behind, placed_in, with_behind}
use Rattle.hush_syntax.specs.CommandWords.{Spot, Beginning, Within, Naming, Listing, spot_behind, begun_words, words_from}
use Rattle.hush_syntax.specs.Grammar.{begins, is_newline, is_separator}
use Rattle.hush_syntax.specs.Keywords.{keyword_of}
use Rattle.hush_syntax.specs.Reading.{operator_at}

-- ---- the tokens that are left, with their places and without

abbrev pub unplaced : List Placed → List Token
unplaced ps = map (λ (p : Placed). p.1) ps

one-place : (place : ℕ) (ts : List Token) → unplaced (map (λ t. (place, t)) ts) ≡ ts
one-place place [] = refl
one-place place (t ∷ ts) = ap (λ l. t ∷ l) (one-place place ts)

placed-told : (place : ℕ) (ls : List Lexeme) → unplaced (placed place ls) ≡ flat_map lexeme_tokens ls
placed-told place [] = refl
placed-told place (l ∷ ls) =
    let rest = placed (place + length (lexeme_text l)) ls in
    map-append (λ (p : Placed). p.1) (map (λ t. (place, t)) (lexeme_tokens l)) rest
    ∙ ap (λ x. x ++ unplaced rest) (one-place place (lexeme_tokens l))
    ∙ ap (λ x. lexeme_tokens l ++ x) (placed-told (place + length (lexeme_text l)) ls)

-- the tokens of a text
pub all-told : (text : List ℕ) → unplaced (placed_left 0 text) ≡ tokens_left text
unfolding placed_left tokens_left
all-told text = placed-told 0 (all lexeme_at text).0

behind-told : (text : Written) (o : Result code.Token SyntaxFault) (b : ℕ) → unplaced (placed_behind text o b) ≡ with_behind text o b
unfolding placed_left tokens_left
behind-told text (Err f) b = refl
behind-told text (Ok t) b = ap (λ l. kind_token text t.kind ∷ l) (placed-told b (all lexeme_at (drop b text.source)).0)

pub left-told : (text : Written) (c : Tokens) → unplaced (placed_in text c) ≡ left_in text c
unfolding placed_in
left-told text c = behind-told text c.next c.behind

same-end : {X : Type 0} (a b p q : List X) → a ++ p ≡ b ++ q → length q ≤ length p → (front : List X) × (p ≡ front ++ q)
same-end [] b p q e short = (b, e)
same-end (x ∷ a) [] p q e short = absurd (omega (arith, ap length e, length-append a p))
same-end {X} (x ∷ a) (y ∷ b) p q e short =
    let lists : ◌≡◌ {A = List X} (x ∷ (a ++ p)) (y ∷ (b ++ q)) = e in
    let tails : a ++ p ≡ b ++ q = cc in
    same-end a b p q tails short

-- what was passed
pub gone : (text : Written) (old new : Tokens) (front : List Token) → IsAt text old → IsAt text new → left_in text old ≡ front ++ left_in text new →
    (passed : List Placed) × (placed_in text old ≡ passed ++ placed_in text new) × (unplaced passed ≡ front)
unfolding IsAt
gone text old new front at now e =
    let before = placed_in text old in
    let after = placed_in text new in
    let more : length (left_in text old) ≡ length front + length (left_in text new) = ap length e ∙ length-append front (left_in text new) in
    let few : length after ≤ length before =
    omega (arith, more, ap length (left-told text old), ap length (left-told text new), length-map before (λ (p : Placed). p.1), length-map after (λ (p : Placed). p.1)) in
    let s = same-end at.0 now.0 before after (sym at.1 ∙ now.1) few in (
      s.0,
      s.1,
      append_cancel_right (unplaced s.0) front (left_in text new)
          (ap (λ l. unplaced s.0 ++ l) (sym (left-told text new)) ∙ sym (map-append (λ (p : Placed). p.1) s.0 after) ∙ ap unplaced (sym s.1) ∙ left-told text old ∙ e),
    )

-- ---- what is passed of words

pub over-separators : (text : Written) (passed ps : List Placed) → list_all is_separator (unplaced passed) ≡ true → words_from text Beginning (passed ++ ps) ≡ words_from text Beginning ps
unfolding words_from
over-separators text [] ps all = refl
over-separators text ((p, Word w) ∷ passed) ps all = absurd (let no : false ≡ true = all in cc)
over-separators text ((p, Newline) ∷ passed) ps all = over-separators text passed ps all
over-separators text ((p, Semicolon) ∷ passed) ps all = over-separators text passed ps all
over-separators text ((p, AndIf) ∷ passed) ps all = absurd (let no : false ≡ true = all in cc)
over-separators text ((p, OrIf) ∷ passed) ps all = absurd (let no : false ≡ true = all in cc)

pub over-newlines : (text : Written) (passed ps : List Placed) → list_all is_newline (unplaced passed) ≡ true → words_from text Beginning (passed ++ ps) ≡ words_from text Beginning ps
unfolding words_from
over-newlines text [] ps all = refl
over-newlines text ((p, Word w) ∷ passed) ps all = absurd (let no : false ≡ true = all in cc)
over-newlines text ((p, Newline) ∷ passed) ps all = over-newlines text passed ps all
over-newlines text ((p, Semicolon) ∷ passed) ps all = absurd (let no : false ≡ true = all in cc)
over-newlines text ((p, AndIf) ∷ passed) ps all = absurd (let no : false ≡ true = all in cc)
over-newlines text ((p, OrIf) ∷ passed) ps all = absurd (let no : false ≡ true = all in cc)

-- one separator at least
pub over-some : (text : Written) (passed ps : List Placed) → list_all is_separator (unplaced passed) ≡ true → begins is_separator (unplaced passed) ≡ true →
    words_from text Within (passed ++ ps) ≡ words_from text Beginning ps
unfolding words_from
over-some text [] ps all some = absurd (let no : false ≡ true = some in cc)
over-some text ((p, Word w) ∷ passed) ps all some = absurd (let no : false ≡ true = all in cc)
over-some text ((p, Newline) ∷ passed) ps all some = over-separators text passed ps all
over-some text ((p, Semicolon) ∷ passed) ps all some = over-separators text passed ps all
over-some text ((p, AndIf) ∷ passed) ps all some = absurd (let no : false ≡ true = all in cc)
over-some text ((p, OrIf) ∷ passed) ps all some = absurd (let no : false ≡ true = all in cc)

pub over-operator : (text : Written) (o : Operator) (passed ps : List Placed) (ts : List Token) → operator_at (unplaced passed ++ ts) ≡ Some o → length passed ≡ 1 →
    words_from text Within (passed ++ ps) ≡ words_from text Beginning ps
unfolding words_from
over-operator text o [] ps ts e n = absurd (omega (arith, n))
over-operator text o ((p, Word w) ∷ passed) ps ts e n = absurd (let no : ◌≡◌ {A = Option Operator} None (Some o) = e in cc)
over-operator text o ((p, Newline) ∷ passed) ps ts e n = absurd (let no : ◌≡◌ {A = Option Operator} None (Some o) = e in cc)
over-operator text o ((p, Semicolon) ∷ passed) ps ts e n = absurd (let no : ◌≡◌ {A = Option Operator} None (Some o) = e in cc)
over-operator text o ((p, AndIf) ∷ []) ps ts e n = refl
over-operator text o ((p, AndIf) ∷ q ∷ passed) ps ts e n = absurd (omega (arith, n))
over-operator text o ((p, OrIf) ∷ []) ps ts e n = refl
over-operator text o ((p, OrIf) ∷ q ∷ passed) ps ts e n = absurd (omega (arith, n))

pub over-reserved : (text : Written) (k : Keyword) (place : ℕ) (w : List Atom) (ps : List Placed) → keyword_of w ≡ Some k →
    words_from text Beginning ((place, Word w) ∷ ps) ≡ words_from text (spot_behind k) ps
unfolding words_from
over-reserved text k place w ps e = rw (words_from, e) refl

pub over-listing : (text : Written) (place : ℕ) (w : List Atom) (ps : List Placed) → words_from text Listing ((place, Word w) ∷ ps) ≡ words_from text Within ps
unfolding words_from
over-listing text place w ps = refl

pub over-naming : (text : Written) (place : ℕ) (w : List Atom) (ps : List Placed) → words_from text Naming ((place, Word w) ∷ ps) ≡ (place, w) ∷ words_from text Listing ps
unfolding words_from
over-naming text place w ps = refl

pub over-within : (text : Written) (place : ℕ) (w : List Atom) (ps : List Placed) → words_from text Within ((place, Word w) ∷ ps) ≡ (place, w) ∷ words_from text Within ps
unfolding words_from
over-within text place w ps = refl

pub over-first : (text : Written) (place : ℕ) (w : List Atom) (ps : List Placed) → keyword_of w ≡ None →
    words_from text Beginning ((place, Word w) ∷ ps) ≡ begun_words text place w (assignment_of w) ++ words_from text Within ps
unfolding words_from
over-first text place w ps e = rw (words_from, e) refl

pub nothing-left : (text : Written) (spot : Spot) → words_from text spot [] ≡ []
unfolding words_from
nothing-left text spot = refl
