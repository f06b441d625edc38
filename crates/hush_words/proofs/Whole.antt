-- The tokens of a text are those that are read of it.
use Rattle.std.specs.Prelude.{◌≡◌, ℕ, true, List, [], ◌∷◌, ◌++◌, Option, Some, None, length}
use Rattle.std.specs.List.{flat_map}
use Rattle.std.proofs.Common.{refl, sym, ◌∙◌, ap, subst, arith, append-nil}
use Rattle.hush_words.specs.Words.{FitAll}
use Rattle.hush_words.specs.Tokens.{Token, Lexeme, lexeme_text, FitsLexeme, HasTokens, has_no_nul}
use Rattle.hush_words.specs.Laws.{FrontIsRead}
use Rattle.hush_words.specs.Reading.{all, lexeme_at, passed_at, tokens_if_whole, tokens_of, tokens_left, lexeme_end}
use Rattle.hush_words.proofs.Fronts.{on_test}
use Rattle.hush_words.proofs.Many.{many-list, many-fits, many-stops, Fitting}
use Rattle.hush_words.proofs.Lexemes.{lexeme-heads, lexeme-takes, lexeme-finds, lexeme-shortens}

nothing-at : lexeme_at [] ≡ None
unfolding lexeme_at passed_at
nothing-at = refl

all-lexemes : (ls : List Lexeme) → FitAll lexeme_text FitsLexeme ls [] → all lexeme_at (flat_map lexeme_text ls) ≡ (ls, [])
all-lexemes ls fit =
    let e : flat_map lexeme_text ls ++ [] ≡ flat_map lexeme_text ls = append-nil (flat_map lexeme_text ls) in
    subst (λ l. all lexeme_at l ≡ (ls, [])) e
    (many-list lexeme_text FitsLexeme lexeme_at lexeme-heads lexeme-takes ls [] (length (flat_map lexeme_text ls ++ [])) fit nothing-at (omega arith))

pub tokens-found : (text : List ℕ) (ts : List Token) → HasTokens text ts → tokens_of text ≡ Some ts
unfolding tokens_of
tokens-found text ts (clean, ls, fit, written, read) =
    let whole : all lexeme_at text ≡ (ls, []) = subst (λ l. all lexeme_at l ≡ (ls, [])) (sym written) (all-lexemes ls fit) in
    rw clean (ap tokens_if_whole whole ∙ ap (λ l. Some l) (sym read))

whole : (text : List ℕ) (q : List Lexeme × List ℕ) → has_no_nul text ≡ true → Fitting lexeme_text FitsLexeme text q →
    (ts : List Token) → tokens_if_whole q ≡ Some ts → HasTokens text ts
whole text (ls, []) clean fit ts e = (clean, ls, fit.1, fit.0 ∙ append-nil (flat_map lexeme_text ls), cc)
whole text (ls, b ∷ bs) clean fit ts e = absurd (cc)

pub tokens-had : (text : List ℕ) (ts : List Token) → tokens_of text ≡ Some ts → HasTokens text ts
unfolding tokens_of
tokens-had text ts =
    on_test (has_no_nul text) (λ o. o ≡ Some ts → HasTokens text ts) (tokens_if_whole (all lexeme_at text)) None
    (λ clean e. whole text (all lexeme_at text) clean (many-fits lexeme_text FitsLexeme lexeme_at lexeme-finds (length text) text) ts e)
    (λ n e. absurd (cc))

pub both-lists : (text : List ℕ) (ts us : List Token) → HasTokens text ts → HasTokens text us → ts ≡ us
both-lists text ts us h k =
    let e = tokens-found text ts h in
    let f = tokens-found text us k in
    cc

pub front-told : FrontIsRead
unfolding tokens_left lexeme_end
front-told text =
    let q : List Lexeme × List ℕ = all lexeme_at text in
    let fit : Fitting lexeme_text FitsLexeme text q = many-fits lexeme_text FitsLexeme lexeme_at lexeme-finds (length text) text in
    let stops : lexeme_at q.1 ≡ None = many-stops lexeme_at lexeme-shortens (length text) text (omega arith) in (
      q.0,
      q.1,
      fit.0,
      fit.1,
      λ l after e f. let there : lexeme_at q.1 ≡ Some (l, after) = ap lexeme_at e ∙ lexeme-heads l after f in absurd (let none : ◌≡◌ {A = Option (Lexeme × List ℕ)} None (Some (l, after)) = sym stops ∙ there in cc),
      refl,
      refl,
    )
