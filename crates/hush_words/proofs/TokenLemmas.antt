-- The token that comes next after a place, by what is there.
use Rattle.std.specs.Prelude.{◌≡◌, ℕ, ◌+◌, ◌<◌, ◌≤◌, List, [], ◌∷◌, length, drop, Some, None, Ok, Err}
use Rattle.std.specs.Option.{option_map}
use Rattle.std.proofs.Common.{sym, ◌∙◌, ap, subst, arith}
use Rattle.hush_words.specs.Reading.{lexeme_at, tokens_left, lexeme_end}
use Rattle.hush_words.specs.Faults.{placed_left, left_fault}
use Rattle.hush_words.specs.Parts.{written}
use Rattle.hush_words.specs.Steps.{StandsAt, lexeme_read, optional_token}
use Rattle.hush_words.specs.Views.{kind_token, BeginsAt, NextToken}
use Rattle.hush_words.specs.declared.faults.Fault.{Fault}
use Rattle.hush_words.specs.declared.tokens.TokenKind.{TokenKind}
use Rattle.hush_words.specs.declared.tokens.TokenRead.{TokenRead}
use Rattle.hush_words.proofs.FaultLemmas.{placed-none, read-placed}
use Rattle.hush_words.proofs.TextLemmas.{nothing-at-end, lexeme-none, read-lexeme}

-- the token that a lexeme is, after those that are passed over
pub token-behind : (source : List ℕ) (place at end : ℕ) (kind : TokenKind) (r : TokenRead) → r.token.kind ≡ kind → r.token.place ≡ at → r.end ≡ end →
    place ≤ at → at < end → end ≤ length source →
    option_map lexeme_read (lexeme_at (drop at source)) ≡ Some (optional_token (written source) (Some kind), drop end source) →
    tokens_left (drop at source) ≡ tokens_left (drop place source) → lexeme_end (drop at source) ≡ lexeme_end (drop place source) →
    placed_left at (drop at source) ≡ placed_left place (drop place source) → BeginsAt at kind →
    NextToken (written source) place (Ok (Some r))
token-behind source place at end kind r ek ep ee begun lt within h left ends places starts =
    let t = read-lexeme (drop at source) (optional_token (written source) (Some kind)) (drop end source) h in (
      sym left ∙ t.0 ∙ ap (λ k. kind_token (written source) k ∷ tokens_left (drop end source)) (sym ek)
          ∙ ap (λ n. kind_token (written source) r.token.kind ∷ tokens_left (drop n source)) (sym ee),
      sym ends ∙ t.1 ∙ ap (λ n. lexeme_end (drop n source)) (sym ee),
      omega (arith, begun, lt, ee),
      omega (arith, within, ee),
      sym places ∙ read-placed source at end (optional_token (written source) (Some kind)) lt within h
          ∙ ap (λ n. (n, kind_token (written source) kind) ∷ placed_left end (drop end source)) (sym ep)
          ∙ ap (λ k. (r.token.place, kind_token (written source) k) ∷ placed_left end (drop end source)) (sym ek)
          ∙ ap (λ n. (r.token.place, kind_token (written source) r.token.kind) ∷ placed_left n (drop n source)) (sym ee),
      subst (λ n. BeginsAt n r.token.kind) (sym ep) (subst (BeginsAt at) (sym ek) starts),
    )

-- what is passed over
pub passed-over : (source : List ℕ) (at end : ℕ) → at < end → end ≤ length source →
    option_map lexeme_read (lexeme_at (drop at source)) ≡ Some (optional_token (written source) None, drop end source) →
    (tokens_left (drop end source) ≡ tokens_left (drop at source)) × (lexeme_end (drop end source) ≡ lexeme_end (drop at source)) ×
    (placed_left end (drop end source) ≡ placed_left at (drop at source))
passed-over source at end lt within h =
    let t = read-lexeme (drop at source) (optional_token (written source) None) (drop end source) h in
    (sym t.0, sym t.1, sym (read-placed source at end (optional_token (written source) None) lt within h))

-- no token up to a fault, or to the end
pub no-token : (source : List ℕ) (place at b : ℕ) (f : Fault) → StandsAt source at b → lexeme_at (drop at source) ≡ None →
    left_fault source (drop at source) ≡ Some f →
    tokens_left (drop at source) ≡ tokens_left (drop place source) → lexeme_end (drop at source) ≡ lexeme_end (drop place source) →
    placed_left at (drop at source) ≡ placed_left place (drop place source) →
    NextToken (written source) place (Err f)
no-token source place at b f here none wrong left ends places =
    let n = lexeme-none (drop at source) none in (
      sym left ∙ n.0,
      λ e. absurd (let both : ◌≡◌ {A = List ℕ} [] (b ∷ drop (at + 1) source) = sym e ∙ sym ends ∙ n.1 ∙ here.1 in cc),
      sym places ∙ placed-none at (drop at source) none,
      ap (left_fault source) (sym ends ∙ n.1) ∙ wrong,
    )

pub end-of-tokens : (source : List ℕ) (place at : ℕ) → drop at source ≡ [] →
    tokens_left (drop at source) ≡ tokens_left (drop place source) → lexeme_end (drop at source) ≡ lexeme_end (drop place source) →
    placed_left at (drop at source) ≡ placed_left place (drop place source) →
    NextToken (written source) place (Ok None)
end-of-tokens source place at e left ends places =
    let n = lexeme-none [] nothing-at-end in
    (sym left ∙ ap tokens_left e ∙ n.0, sym ends ∙ ap lexeme_end e ∙ n.1, sym places ∙ ap (placed_left at) e ∙ placed-none at [] nothing-at-end)
