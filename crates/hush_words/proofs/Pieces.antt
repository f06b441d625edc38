-- What is at the front of a word.
use Rattle.std.specs.Prelude.{◌≡◌, ℕ, ◌==◌, true, false, not, List, [], ◌∷◌, ◌++◌, Some, None, length}
use Rattle.std.specs.List.{list_all, flat_map}
use Rattle.std.specs.Option.{option_map}
use Rattle.std.proofs.Common.{refl, sym, ◌∙◌, ap, subst, arith, append_assoc}
use Rattle.hush_words.specs.Words.{Dollar, dollar_text, FitsDollar, Inner, inner_text, FitsInner, piece_text, FitsPiece, FitAll, is_bare, is_inner}
use Rattle.hush_words.specs.Words.Piece.{Bare, Escaped, Joined, Single, Double, DollarPiece}
use Rattle.hush_words.specs.Reading.{Found, found, front, behind, all, closed, dollar_at, as_piece, inner_at, escape_at, single_at, double_at, piece_at}
use Rattle.hush_words.proofs.Fronts.{on_test, on_byte, front-append, behind-append, front-behind, front-all}
use Rattle.hush_words.proofs.Many.{FoundFits, Heads, Takes, Finds, many-list, many-fits, Shortens, shortens}
-- two bytes that a test tells apart
use Rattle.hush_words.proofs.Finders.{dollar-heads, dollar-finds, inner-heads, inner-finds, inner-takes, dollar-bare, backslash-bare, single-bare, double-bare}

pub piece-bare : (b : ℕ) (r : List ℕ) → is_bare b ≡ true → piece_at (b ∷ r) ≡ found (Bare b) r
unfolding piece_at
piece-bare b r e = rw e refl

pub piece-dollar : (r : List ℕ) → piece_at (36 ∷ r) ≡ option_map as_piece (dollar_at r)
unfolding piece_at
piece-dollar r = rw dollar-bare refl

pub piece-backslash : (r : List ℕ) → piece_at (92 ∷ r) ≡ escape_at r
unfolding piece_at
piece-backslash r = rw backslash-bare refl

pub piece-single : (r : List ℕ) → piece_at (39 ∷ r) ≡ single_at r
unfolding piece_at
piece-single r = rw single-bare refl

pub piece-double : (r : List ℕ) → piece_at (34 ∷ r) ≡ double_at r
unfolding piece_at
piece-double r = rw double-bare refl

pub piece-other : (b : ℕ) (r : List ℕ) → is_bare b ≡ false → (b == 36) ≡ false → (b == 92) ≡ false → (b == 39) ≡ false →
    (b == 34) ≡ false → piece_at (b ∷ r) ≡ None
unfolding piece_at
piece-other b r e d s q w = rw (e, d, s, q, w) refl

pub escape-other : (b : ℕ) (r : List ℕ) → (b == 10) ≡ false → escape_at (b ∷ r) ≡ found (Escaped b) r
unfolding escape_at
escape-other b r e = rw e refl

pub escape-newline : (r : List ℕ) → escape_at (10 ∷ r) ≡ found Joined r
unfolding escape_at
escape-newline r = refl

pub single-whole : (bs r : List ℕ) → list_all (λ b. not (b == 39)) bs ≡ true → single_at (bs ++ 39 ∷ r) ≡ found (Single bs) r
unfolding single_at
single-whole bs r e =
    ap (λ l. closed 39 (Single l) (behind (λ b. not (b == 39)) (bs ++ 39 ∷ r))) (front-append (λ b. not (b == 39)) bs (39 ∷ r) e refl)
    ∙ ap (λ l. closed 39 (Single bs) l) (behind-append (λ b. not (b == 39)) bs (39 ∷ r) e refl)

quote-no_inner : (r : List ℕ) → inner_at (34 ∷ r) ≡ None
unfolding inner_at is_inner
quote-no_inner r = refl

double-whole : (ps : List Inner) (r : List ℕ) → FitAll inner_text FitsInner ps (34 ∷ r) → double_at (flat_map inner_text ps ++ 34 ∷ r) ≡ found (Double ps) r
unfolding double_at
double-whole ps r fit =
    let e = many-list inner_text FitsInner inner_at inner-heads inner-takes ps (34 ∷ r) (length (flat_map inner_text ps ++ 34 ∷ r)) fit (quote-no_inner r) (omega arith) in
    ap (λ q. closed 34 (Double q.0) q.1) e

pub piece-heads : Heads piece_text FitsPiece piece_at
piece-heads (Bare b) r fit = piece-bare b r fit
piece-heads (Escaped b) r fit = piece-backslash (b ∷ r) ∙ escape-other b r fit
piece-heads Joined r fit = piece-backslash (10 ∷ r) ∙ escape-newline r
piece-heads (Single bs) r fit =
    ap (λ l. piece_at (39 ∷ l)) (append_assoc bs (39 ∷ []) r) ∙ piece-single (bs ++ 39 ∷ r) ∙ single-whole bs r fit
piece-heads (Double ps) r fit =
    ap (λ l. piece_at (34 ∷ l)) (append_assoc (flat_map inner_text ps) (34 ∷ []) r) ∙ piece-double (flat_map inner_text ps ++ 34 ∷ r) ∙ double-whole ps r fit
piece-heads (DollarPiece d) r fit =
    piece-dollar (dollar_text d ++ r) ∙ ap (λ o. option_map as_piece o) (dollar-heads d r fit)

as_piece-fits : (bs : List ℕ) (o : Found Dollar) → FoundFits dollar_text FitsDollar bs o →
    FoundFits piece_text FitsPiece (36 ∷ bs) (option_map as_piece o)
as_piece-fits bs None h = tt
as_piece-fits bs (Some f) h = (ap (λ (l : List ℕ). 36 ∷ l) h.0, h.1)

escape-finds : (bs : List ℕ) → FoundFits piece_text FitsPiece (92 ∷ bs) (escape_at bs)
unfolding escape_at
escape-finds [] = tt
escape-finds (b ∷ bs) =
    on_byte b 10 (λ k o. FoundFits piece_text FitsPiece (92 ∷ k ∷ bs) o) _ _ (refl, tt) (λ e. (refl, e))

closed_single : (bs rest : List ℕ) → list_all (λ b. not (b == 39)) bs ≡ true →
    FoundFits piece_text FitsPiece (39 ∷ bs ++ rest) (closed 39 (Single bs) rest)
closed_single bs [] e = tt
closed_single bs (c ∷ cs) e =
    on_byte c 39 (λ k o. FoundFits piece_text FitsPiece (39 ∷ bs ++ k ∷ cs) o) (found (Single bs) cs) None
    (sym (append_assoc (39 ∷ bs) (39 ∷ []) cs), e) (λ h. tt)

single-finds : (bs : List ℕ) → FoundFits piece_text FitsPiece (39 ∷ bs) (single_at bs)
unfolding single_at
single-finds bs =
    subst (λ l. FoundFits piece_text FitsPiece (39 ∷ l) (closed 39 (Single (front (λ b. not (b == 39)) bs)) (behind (λ b. not (b == 39)) bs)))
    (sym (front-behind (λ b. not (b == 39)) bs))
    (closed_single (front (λ b. not (b == 39)) bs) (behind (λ b. not (b == 39)) bs) (front-all (λ b. not (b == 39)) bs))

closed_double : (ps : List Inner) (rest : List ℕ) → FitAll inner_text FitsInner ps rest →
    FoundFits piece_text FitsPiece (34 ∷ flat_map inner_text ps ++ rest) (closed 34 (Double ps) rest)
closed_double ps [] fit = tt
closed_double ps (c ∷ cs) fit =
    on_byte c 34 (λ k o. FitAll inner_text FitsInner ps (k ∷ cs) → FoundFits piece_text FitsPiece (34 ∷ flat_map inner_text ps ++ k ∷ cs) o) (found (Double ps) cs) None
    (λ f. (sym (append_assoc (34 ∷ flat_map inner_text ps) (34 ∷ []) cs), f)) (λ h f. tt) fit

double-finds : (bs : List ℕ) → FoundFits piece_text FitsPiece (34 ∷ bs) (double_at bs)
unfolding double_at
double-finds bs =
    let f = many-fits inner_text FitsInner inner_at inner-finds (length bs) bs in
    subst (λ l. FoundFits piece_text FitsPiece (34 ∷ l) (closed 34 (Double (all inner_at bs).0) (all inner_at bs).1))
    (sym f.0) (closed_double (all inner_at bs).0 (all inner_at bs).1 f.1)

pub piece-finds : Finds piece_text FitsPiece piece_at
unfolding piece_at
piece-finds [] = tt
piece-finds (b ∷ bs) =
    on_test (is_bare b) (FoundFits piece_text FitsPiece (b ∷ bs)) _ _ (λ e. (refl, e))
    (λ e. on_byte b 36 (λ k o. FoundFits piece_text FitsPiece (k ∷ bs) o) _ _ (as_piece-fits bs (dollar_at bs) (dollar-finds bs))
    (λ e'. on_byte b 92 (λ k o. FoundFits piece_text FitsPiece (k ∷ bs) o) _ _ (escape-finds bs)
    (λ e''. on_byte b 39 (λ k o. FoundFits piece_text FitsPiece (k ∷ bs) o) _ _ (single-finds bs)
    (λ f. on_byte b 34 (λ k o. FoundFits piece_text FitsPiece (k ∷ bs) o) _ _ (double-finds bs) (λ f'. tt)))))

pub piece-takes : Takes piece_text FitsPiece
piece-takes (Bare b) r fit = omega arith
piece-takes (Escaped b) r fit = omega arith
piece-takes Joined r fit = omega arith
piece-takes (Single bs) r fit = omega arith
piece-takes (Double ps) r fit = omega arith
piece-takes (DollarPiece d) r fit = omega arith

pub piece-shortens : Shortens piece_at
piece-shortens = shortens piece_text FitsPiece piece_at piece-takes piece-finds
