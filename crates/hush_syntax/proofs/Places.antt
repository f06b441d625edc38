-- The places that reading a text from the left reaches, and what is wrong where the tokens end.
use Rattle.std.specs.Prelude.{◌≡◌, ℕ, false, List, [], ◌∷◌, ◌++◌, drop, length, Option, Some, None, Err}
use Rattle.std.specs.Option.{option_map}
use Rattle.std.proofs.Common.{refl, sym, ◌∙◌, ap, subst, append_assoc}
use Rattle.hush_words.specs.Words.{Atom}
use Rattle.hush_words.specs.Tokens.{Token, has_no_nul}
use Rattle.hush_words.specs.Tokens.Token.{Word, Newline, Semicolon, AndIf, OrIf}
use Rattle.hush_words.specs.Parts.{Written}
use Rattle.hush_words.specs.Reading.{lexeme_end}
use Rattle.hush_words.specs.Faults.{placed_left, stop_at, fault_in, left_fault, token_fault, first_nul}
use Rattle.hush_words.specs.declared.faults.Fault.{Fault}
use Rattle.hush_words.specs.declared.faults.FaultKind as words
use Rattle.hush_words.specs.declared.faults.FaultKind.TheVariants as word
use Rattle.hush_words.proofs.PieceLemmas.{piece-none, nothing-left}
use Rattle.hush_syntax.specs.declared.cursor.Tokens.{Tokens}
use Rattle.hush_syntax.specs.declared.nodes.Bodies.{Bodies}
use Rattle.hush_syntax.specs.declared.syntax_fault.SyntaxFault.{SyntaxFault}
use Rattle.hush_syntax.specs.declared.syntax_fault.FaultKind.TheVariants as fault
use Rattle.hush_syntax.specs.declared.keywords.Keyword.{Keyword}
use Rattle.hush_syntax.specs.Answers.{placed_in, EndsBehind, EndsRight, IsAt}
use Rattle.hush_syntax.specs.Faults.{word_kind, word_fault, missing_at, end_fault}
use Rattle.hush_syntax.specs.Halts.{halt_in, fault_in as script_fault}
use Rattle.hush_syntax.specs.Keywords.{keyword_of}
use Rattle.hush_syntax.specs.Reading.{keyword_at}

-- what is wrong where the tokens end, by the fault at which they stop, if there is one
abbrev pub end_by : List ℕ → Option Fault → SyntaxFault
end_by text stop =
    elim stop [
      | Some f ↦ word_fault f
      | None ↦ missing_at (length text)
    ]

pub word-ends : (text : List ℕ) (f : Fault) → token_fault text ≡ Some f → word_fault f ≡ end_fault text
unfolding end_fault
word-ends text f e = sym (ap (end_by text) e)

nothing-stops : (source : List ℕ) → left_fault source [] ≡ None
unfolding left_fault stop_at
nothing-stops source = ap (λ left. option_map (fault_in source) (stop_at left)) (piece-none [] nothing-left).1

pub text-ends : (text : List ℕ) → lexeme_end text ≡ [] → missing_at (length text) ≡ end_fault text
unfolding end_fault
text-ends text e = sym (ap (end_by text) (ap (left_fault text) e ∙ nothing-stops text))

one-on : {X : Type 0} (passed left : List X) → (more : List X) × (passed ++ left ≡ more ++ drop 1 left)
one-on passed [] = (passed, refl)
one-on passed (x ∷ left) = (passed ++ x ∷ [], sym (append_assoc passed (x ∷ []) left))

-- a token further
pub at-next : (text : Written) (old new : Tokens) → IsAt text old → placed_in text new ≡ drop 1 (placed_in text old) →
    (EndsRight text old → EndsRight text new) → IsAt text new
unfolding IsAt
at-next text old new at next ends =
    let on = one-on at.0 (placed_in text old) in
    (on.0, at.1 ∙ on.1 ∙ ap (λ l. on.0 ++ l) (sym next), ends at.2)

pub at-first : (text : Written) (new : Tokens) → placed_in text new ≡ placed_left 0 text.source → EndsRight text new → IsAt text new
unfolding IsAt
at-first text new placed ends = ([], sym placed, ends)

pub ends-at : (text : Written) (c : Tokens) (f : SyntaxFault) → c.next ≡ Err f → IsAt text c → f ≡ end_fault text.source
unfolding IsAt EndsRight
ends-at text c f e at = subst (λ o. EndsBehind text o c.behind) e at.2

pub keyword-word : (ts : List Token) (k : Keyword) → keyword_at ts ≡ Some k →
    (w : List Atom) × (rest : List Token) × (ts ≡ Word w ∷ rest) × (keyword_of w ≡ Some k)
keyword-word [] k e = absurd (let no : ◌≡◌ {A = Option Keyword} None (Some k) = e in cc)
keyword-word (Word w ∷ ts) k e = (w, ts, refl, e)
keyword-word (Newline ∷ ts) k e = absurd (let no : ◌≡◌ {A = Option Keyword} None (Some k) = e in cc)
keyword-word (Semicolon ∷ ts) k e = absurd (let no : ◌≡◌ {A = Option Keyword} None (Some k) = e in cc)
keyword-word (AndIf ∷ ts) k e = absurd (let no : ◌≡◌ {A = Option Keyword} None (Some k) = e in cc)
keyword-word (OrIf ∷ ts) k e = absurd (let no : ◌≡◌ {A = Option Keyword} None (Some k) = e in cc)

-- a text with a byte 0
pub nul-first : (bodies : Bodies) (text : List ℕ) (nul : Fault) (f : SyntaxFault) → has_no_nul text ≡ false → nul ≡ first_nul text →
    f ≡ word_fault nul → script_fault bodies text ≡ Some f
unfolding halt_in
nul-first bodies text nul f has same e = rw (has, e, same) refl

-- which is no refusal of memory
pub word-not-memory : (kind : words.FaultKind) → word_kind kind ≡ fault.Memory → ⊥
word-not-memory word.Quote e = cc
word-not-memory word.Backslash e = cc
word-not-memory word.Substitution e = cc
word-not-memory word.Operator e = cc
word-not-memory word.Nul e = cc
