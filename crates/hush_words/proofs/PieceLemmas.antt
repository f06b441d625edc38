-- What the pieces at the front of a text stand for, one by one.
use Rattle.std.specs.Prelude.{◌≡◌, ℕ, ◌+◌, ◌-◌, ◌≤◌, Bool, true, List, [], ◌∷◌, ◌++◌, map, take, drop, Some, None, is_some, length}
use Rattle.std.specs.List.{flat_map, list_all}
use Rattle.std.specs.Option.{option_map}
use Rattle.std.proofs.Common.{refl, sym, ◌∙◌, ap, subst, arith, append_assoc, append-nil}
use Rattle.std.proofs.lemmas.Bool.{and_parts}
use Rattle.std.proofs.Math.Seq.{take-add}
use Rattle.std.proofs.lemmas.List.{drop-drop, take-append-drop, append_cancel_right}
use Rattle.hush_words.specs.Words.{Piece, Dollar, FitsDollar, inner_text, Inner, FitsInner, piece_text, piece_atoms, FitsPiece, FitAll, is_bare, next}
use Rattle.hush_words.specs.Words.Atom.{Plain}
use Rattle.hush_words.specs.Words.Dollar.{Name, Braces, LastStatus, Alone}
use Rattle.hush_words.specs.Words.Inner.{Byte, Backslash, EscapedInner, JoinedInner, DollarInner}
use Rattle.hush_words.specs.Words.Piece.{Bare, Escaped, Joined, Single, Double, DollarPiece}
use Rattle.hush_words.specs.Reading.{Found, found, all, piece_at, piece_atoms_left, piece_end}
use Rattle.hush_words.specs.Parts.{range_bytes}
use Rattle.hush_words.proofs.Many.{all-some, all-none, many-list, many-fits, Fitting}
use Rattle.hush_words.proofs.Pieces.{piece-shortens, piece-bare, piece-heads, piece-takes, piece-finds}

pub piece-one : (bs : List ℕ) (p : Piece) (r : List ℕ) → piece_at bs ≡ found p r →
    (piece_atoms_left bs ≡ piece_atoms p ++ piece_atoms_left r) × (piece_end bs ≡ piece_end r)
unfolding piece_atoms_left piece_end
piece-one bs p r e =
    let q = all-some piece_at piece-shortens bs p r e in
    (ap (λ w. flat_map piece_atoms w.0) q, ap (λ w. w.1) q)

pub piece-none : (bs : List ℕ) → piece_at bs ≡ None → (piece_atoms_left bs ≡ []) × (piece_end bs ≡ bs)
unfolding piece_atoms_left piece_end
piece-none bs e =
    let q = all-none piece_at bs e in
    (ap (λ w. flat_map piece_atoms w.0) q, ap (λ w. w.1) q)

pub nothing-left : piece_at [] ≡ None
unfolding piece_at
nothing-left = refl

pub nothing : piece_atoms_left [] ≡ []
nothing = (piece-none [] nothing-left).0

-- bytes that stand for themselves, one piece each
pub piece-run : (run rest : List ℕ) → list_all is_bare run ≡ true →
    (piece_atoms_left (run ++ rest) ≡ map Plain run ++ piece_atoms_left rest) × (piece_end (run ++ rest) ≡ piece_end rest)
piece-run [] rest all = (refl, refl)
piece-run (b ∷ bs) rest all =
    let p = and_parts (is_bare b) (list_all is_bare bs) all in
    let one = piece-one (b ∷ bs ++ rest) (Bare b) (bs ++ rest) (piece-bare b (bs ++ rest) p.0) in
    let more = piece-run bs rest p.1 in
    (one.0 ∙ ap (λ l. Plain b ∷ l) more.0, one.1 ∙ more.1)

pub bare-read : (bytes : List ℕ) → list_all is_bare bytes ≡ true → piece_atoms_left bytes ≡ map Plain bytes
bare-read bytes all =
    ap piece_atoms_left (sym (append-nil bytes)) ∙ (piece-run bytes [] all).0 ∙ ap (λ l. map Plain bytes ++ l) nothing ∙ append-nil (map Plain bytes)

-- one piece, by what is after it
goes-by : (bs rest : List ℕ) (o : Found Piece) → piece_at bs ≡ o → option_map (λ (f : Piece × List ℕ). f.1) o ≡ Some rest →
    (is_some (piece_at bs) ≡ true) × (piece_end rest ≡ piece_end bs)
goes-by bs rest None e h = absurd (cc)
goes-by bs rest (Some f) e h =
    let same : f.1 ≡ rest = cc in
    (ap (λ o. is_some o) e, ap piece_end (sym same) ∙ sym (piece-one bs f.0 f.1 e).1)

pub piece-goes : (bs rest : List ℕ) → option_map (λ (f : Piece × List ℕ). f.1) (piece_at bs) ≡ Some rest →
    (is_some (piece_at bs) ≡ true) × (piece_end rest ≡ piece_end bs)
piece-goes bs rest h = goes-by bs rest (piece_at bs) refl h

-- ranges that are next to each other
pub range-rest : (source : List ℕ) (start end : ℕ) → start ≤ end → drop start source ≡ range_bytes source start end ++ drop end source
range-rest source start end ordered =
    let place : start + (end - start) ≡ end = omega arith in
    sym (ap (λ l. range_bytes source start end ++ l) (sym (drop-drop (end - start) start source ∙ ap (λ n. drop n source) place))
    ∙ take-append-drop (end - start) (drop start source))

pub range-join : (source : List ℕ) (start mid end : ℕ) → start ≤ mid → mid ≤ end →
    range_bytes source start end ≡ range_bytes source start mid ++ range_bytes source mid end
range-join source start mid end low high =
    let sum' : end - start ≡ (mid - start) + (end - mid) = omega arith in
    let place : start + (mid - start) ≡ mid = omega arith in
    ap (λ n. take n (drop start source)) sum' ∙ take-add (mid - start) (end - mid) (drop start source)
    ∙ ap (λ l. range_bytes source start mid ++ take (end - mid) l) (drop-drop (mid - start) start source ∙ ap (λ n. drop n source) place)

-- a run of bare bytes
pub run-read : (source : List ℕ) (start end : ℕ) → start ≤ end → list_all is_bare (range_bytes source start end) ≡ true →
    (piece_atoms_left (drop start source) ≡ map Plain (range_bytes source start end) ++ piece_atoms_left (drop end source)) ×
    (piece_end (drop end source) ≡ piece_end (drop start source))
run-read source start end ordered bare =
    let r = piece-run (range_bytes source start end) (drop end source) bare in
    let whole = range-rest source start end ordered in
    (ap piece_atoms_left whole ∙ r.0, sym r.1 ∙ ap piece_end (sym whole))

-- what fits before a text fits before its prefix alone, since it looks at the byte after it and no further
next-front : (test : ℕ → Bool) (front rest : List ℕ) → next test (front ++ rest) ≡ true → next test front ≡ true
next-front test [] rest e = refl
next-front test (b ∷ bs) rest e = e

dollar-front : (d : Dollar) (front rest : List ℕ) → FitsDollar d (front ++ rest) → FitsDollar d front
dollar-front (Name n) front rest fit = (fit.0, next-front _ front rest fit.1)
dollar-front (Braces n) front rest fit = fit
dollar-front LastStatus front rest fit = tt
dollar-front Alone front rest fit = next-front _ front rest fit

inner-front : (p : Inner) (front rest : List ℕ) → FitsInner p (front ++ rest) → FitsInner p front
inner-front (Byte b) front rest fit = fit
inner-front Backslash front rest fit = next-front _ front rest fit
inner-front (EscapedInner b) front rest fit = fit
inner-front JoinedInner front rest fit = tt
inner-front (DollarInner d) front rest fit = dollar-front d front rest fit

all-front : {P : Type 0} (text : P → List ℕ) (Fits : P → List ℕ → Type 0) → ((p : P) (front rest : List ℕ) → Fits p (front ++ rest) → Fits p front) →
    (ps : List P) (front rest : List ℕ) → FitAll text Fits ps (front ++ rest) → FitAll text Fits ps front
all-front text Fits one [] front rest fit = tt
all-front text Fits one (p ∷ ps) front rest fit =
    (one p (flat_map text ps ++ front) rest (subst (Fits p) (sym (append_assoc (flat_map text ps) front rest)) fit.0), all-front text Fits one ps front rest fit.1)

piece-front : (p : Piece) (front rest : List ℕ) → FitsPiece p (front ++ rest) → FitsPiece p front
piece-front (Bare b) front rest fit = fit
piece-front (Escaped b) front rest fit = fit
piece-front Joined front rest fit = tt
piece-front (Single bs) front rest fit = fit
piece-front (Double ps) front rest fit = all-front inner_text FitsInner inner-front ps (34 ∷ front) rest fit
piece-front (DollarPiece d) front rest fit = dollar-front d front rest fit

-- pieces are read again of their own text
all-again : (ps : List Piece) (rest : List ℕ) → FitAll piece_text FitsPiece ps rest → all piece_at (flat_map piece_text ps) ≡ (ps, [])
all-again ps rest fit =
    subst (λ l. all piece_at l ≡ (ps, [])) (append-nil (flat_map piece_text ps))
    (many-list piece_text FitsPiece piece_at piece-heads piece-takes ps [] (length (flat_map piece_text ps ++ []))
    (all-front piece_text FitsPiece piece-front ps [] rest fit) nothing-left (omega arith))

pub read-again : (text bytes : List ℕ) → text ≡ bytes ++ piece_end text → piece_atoms_left bytes ≡ piece_atoms_left text
unfolding piece_atoms_left piece_end
read-again text bytes e =
    let f : Fitting piece_text FitsPiece text (all piece_at text) = many-fits piece_text FitsPiece piece_at piece-finds (length text) text in
    let ps : List Piece = (all piece_at text).0 in
    let same : bytes ≡ flat_map piece_text ps = append_cancel_right bytes (flat_map piece_text ps) (all piece_at text).1 (sym e ∙ f.0) in
    ap (λ l. flat_map piece_atoms (all piece_at l).0) same ∙ ap (λ q. flat_map piece_atoms q.0) (all-again ps (all piece_at text).1 f.1)
