-- What begins at a place of a word.
use Rattle.std.specs.Prelude.{◌≡◌, ℕ, ◌+◌, ◌≤◌, ◌==◌, true, false, not, List, [], ◌∷◌, ◌++◌, drop, Some, None}
use Rattle.std.specs.Option.{option_map}
use Rattle.std.specs.List.{list_all}
use Rattle.std.proofs.Common.{refl, sym, ◌∙◌, ap, arith, inl, inr}
use Rattle.std.proofs.lemmas.Bool.{ne_eqb, not_from_false, or_from, or_cases, eqb-true, both_ways, cases_eq, cases_Bool}
use Rattle.hush_words.specs.Words.{Atom, Piece, Dollar, dollar_atom, is_bare, is_special, ends_word, next}
use Rattle.hush_words.specs.Words.Atom.{Quoted}
use Rattle.hush_words.specs.Words.Piece.{Escaped, Joined, DollarPiece}
use Rattle.hush_words.specs.Reading.{Found, found, as_piece, dollar_at, escape_at, piece_at, piece_atoms_left, piece_end}
use Rattle.hush_words.specs.Parts.{range_bytes}
use Rattle.hush_words.specs.Steps.{StandsAt, IsRun, dollar_read}
use Rattle.hush_words.proofs.Pieces.{piece-dollar, piece-backslash, escape-other, escape-newline}
use Rattle.hush_words.proofs.PieceLemmas.{piece-one, piece-none, range-rest, read-again, run-read}
use Rattle.hush_words.proofs.Fronts.{front-all, behind-next}

pub bare-by : (b : ℕ) → ends_word b ≡ false → is_special b ≡ false → is_bare b ≡ true
unfolding is_bare
bare-by b e f = not_from_false _ (or_from (ends_word b) (is_special b) e f)

-- a run of plain bytes
pub plain-read : (source : List ℕ) (start end : ℕ) → IsRun is_bare source start end →
    (piece_end (drop end source) ≡ piece_end (drop start source)) × (next (λ b. not (is_bare b)) (drop end source) ≡ true)
plain-read source start end run =
    let all : list_all is_bare (range_bytes source start end) ≡ true = ap (list_all is_bare) run.2 ∙ front-all is_bare (drop start source) in (
      (run-read source start end run.0 all).1,
      ap (next (λ b. not (is_bare b))) run.3 ∙ behind-next is_bare (drop start source),
    )

pub special-by : (b : ℕ) → is_bare b ≡ false → ends_word b ≡ false → is_special b ≡ true
unfolding is_bare
special-by b bare inside =
    elim (cases_Bool (is_special b)) [
      | inl e ↦ e
      | inr e ↦ absurd (both_ways (is_bare b) bare (bare-by b inside e))
    ]

-- what a `$` begins, as a piece
dollar-found : (bs : List ℕ) (o : Found Dollar) (atoms : List Atom) (rest : List ℕ) → piece_at bs ≡ option_map as_piece o →
    option_map (dollar_read false) o ≡ Some (atoms, rest) →
    (option_map (λ (f : Piece × List ℕ). f.1) (piece_at bs) ≡ Some rest) × (piece_atoms_left bs ≡ atoms ++ piece_atoms_left rest)
dollar-found bs None atoms rest e h = absurd (cc)
dollar-found bs (Some f) atoms rest e h =
    let w : ◌≡◌ {A = List Atom × List ℕ} (dollar_atom false f.0 ∷ [], f.1) (atoms, rest) = cc in (
      ap (λ o. option_map (λ (g : Piece × List ℕ). g.1) o) e ∙ ap (λ v. Some v.1) w,
      (piece-one bs (DollarPiece f.0) f.1 e).0 ∙ ap (λ v. v.0 ++ piece_atoms_left v.1) w,
    )

pub read-dollar-piece : (source : List ℕ) (at end : ℕ) (atoms : List Atom) → StandsAt source at 36 →
    option_map (dollar_read false) (dollar_at (drop (at + 1) source)) ≡ Some (atoms, drop end source) →
    (option_map (λ (f : Piece × List ℕ). f.1) (piece_at (drop at source)) ≡ Some (drop end source)) ×
    (piece_atoms_left (drop at source) ≡ atoms ++ piece_atoms_left (drop end source))
read-dollar-piece source at end atoms here h =
    dollar-found (drop at source) (dollar_at (drop (at + 1) source)) atoms (drop end source)
    (ap piece_at here.1 ∙ piece-dollar (drop (at + 1) source)) h

pub no-dollar-piece : (source : List ℕ) (at : ℕ) → StandsAt source at 36 → dollar_at (drop (at + 1) source) ≡ None → piece_at (drop at source) ≡ None
no-dollar-piece source at here e =
    ap piece_at here.1 ∙ piece-dollar (drop (at + 1) source) ∙ ap (λ o. option_map as_piece o) e

escape-end : escape_at [] ≡ None
unfolding escape_at
escape-end = refl

pub escape-last : (source : List ℕ) (at : ℕ) → StandsAt source at 92 → drop (at + 1) source ≡ [] → piece_at (drop at source) ≡ None
escape-last source at here e = ap piece_at here.1 ∙ piece-backslash (drop (at + 1) source) ∙ ap escape_at e ∙ escape-end

pub escape-there : (source : List ℕ) (at b : ℕ) → StandsAt source at 92 → StandsAt source (at + 1) b → (b ≡ 10 → ⊥) →
    piece_at (drop at source) ≡ found (Escaped b) (drop (at + 2) source)
escape-there source at b here next' ne =
    let two : at + 1 + 1 ≡ at + 2 = omega arith in
    ap piece_at here.1 ∙ piece-backslash (drop (at + 1) source) ∙ ap escape_at next'.1 ∙ escape-other b (drop (at + 1 + 1) source) (ne_eqb b 10 ne)
    ∙ ap (λ n. found (Escaped b) (drop n source)) two

pub joined-there : (source : List ℕ) (at b : ℕ) → StandsAt source at 92 → StandsAt source (at + 1) b → b ≡ 10 →
    piece_at (drop at source) ≡ found Joined (drop (at + 2) source)
joined-there source at b here next' e =
    let two : at + 1 + 1 ≡ at + 2 = omega arith in
    ap piece_at here.1 ∙ piece-backslash (drop (at + 1) source) ∙ ap escape_at (next'.1 ∙ ap (λ k. k ∷ drop (at + 1 + 1) source) e)
    ∙ escape-newline (drop (at + 1 + 1) source)
    ∙ ap (λ n. found Joined (drop n source)) two

-- a `\` and the byte after it
pub escape-ends : (source : List ℕ) (at b : ℕ) → StandsAt source at 92 → StandsAt source (at + 1) b →
    option_map (λ (f : Piece × List ℕ). f.1) (piece_at (drop at source)) ≡ Some (drop (at + 2) source)
escape-ends source at b here next' =
    elim (cases_eq b 10) [
      | inl e ↦ ap (λ o. option_map (λ (f : Piece × List ℕ). f.1) o) (joined-there source at b here next' e)
      | inr e ↦ ap (λ o. option_map (λ (f : Piece × List ℕ). f.1) o) (escape-there source at b here next' e)
    ]

pub escaped-left : (source : List ℕ) (at b : ℕ) → StandsAt source at 92 → StandsAt source (at + 1) b → (b ≡ 10 → ⊥) →
    piece_atoms_left (drop at source) ≡ Quoted b ∷ piece_atoms_left (drop (at + 2) source)
escaped-left source at b here next' ne =
    (piece-one (drop at source) (Escaped b) (drop (at + 2) source) (escape-there source at b here next' ne)).0

pub joined-left : (source : List ℕ) (at b : ℕ) → StandsAt source at 92 → StandsAt source (at + 1) b → b ≡ 10 →
    piece_atoms_left (drop at source) ≡ piece_atoms_left (drop (at + 2) source)
joined-left source at b here next' e =
    (piece-one (drop at source) Joined (drop (at + 2) source) (joined-there source at b here next' e)).0

-- of the special bytes the last
pub last-special : (b : ℕ) → is_special b ≡ true → (b ≡ 36 → ⊥) → (b ≡ 92 → ⊥) → (b ≡ 39 → ⊥) → b ≡ 34
unfolding is_special
last-special b e d s q =
    let f : (b == 36) ≡ false = ne_eqb b 36 d in
    let g : (b == 92) ≡ false = ne_eqb b 92 s in
    let h : (b == 39) ≡ false = ne_eqb b 39 q in
    let rest = rw (f, h) at e in
    elim (or_cases (b == 34) _ rest) [ inl w ↦ eqb-true b 34 w | inr w ↦ absurd (both_ways _ (or_from (b == 92) false g refl) w) ]

-- where a word ends, all of its range is read
pub word-read : (source : List ℕ) (start at : ℕ) → start ≤ at → piece_at (drop at source) ≡ None → piece_end (drop at source) ≡ piece_end (drop start source) →
    (piece_atoms_left (range_bytes source start at) ≡ piece_atoms_left (drop start source)) × (piece_end (drop start source) ≡ drop at source)
word-read source start at ordered none ends =
    let end : piece_end (drop start source) ≡ drop at source = sym ends ∙ (piece-none (drop at source) none).1 in (
      read-again (drop start source) (range_bytes source start at)
          (range-rest source start at ordered ∙ ap (λ l. range_bytes source start at ++ l) (sym end)),
      end,
    )
