-- A pair of quotes as one piece.
use Rattle.std.specs.Prelude.{◌≡◌, ℕ, suc, ◌+◌, ◌-◌, ◌<◌, ◌==◌, true, false, not, List, [], ◌∷◌, ◌++◌, map, length, take, drop, Some, None}
use Rattle.std.specs.Option.{option_map}
use Rattle.std.proofs.Common.{refl, sym, ◌∙◌, ap, subst, arith, append_assoc, get_or, inl, inr}
use Rattle.std.proofs.Math.Seq.{drop-cons}
use Rattle.std.proofs.lemmas.Bool.{not-true, not-false, eq-eqb, cases_Bool, cases_lt, both_ways}
use Rattle.std.proofs.lemmas.List.{drop_all, drop-drop}
use Rattle.hush_words.specs.Words.{Atom, Piece, piece_atoms, next}
use Rattle.hush_words.specs.Words.Atom.{Quoted, Mark}
use Rattle.hush_words.specs.Words.Piece.{Single, Double}
use Rattle.hush_words.specs.Reading.{found, front, behind, all, closed, inner_at, single_at, double_at, piece_at, piece_atoms_left}
use Rattle.hush_words.specs.Steps.{StandsAt, IsRun, begins, inner_left, inner_end, atoms_left, Closes}
use Rattle.hush_words.specs.Parts.{range_bytes}
use Rattle.hush_words.specs.declared.reads.Inside.TheVariants as inside
use Rattle.hush_words.proofs.Fronts.{behind-next}
use Rattle.hush_words.proofs.Pieces.{piece-single, piece-double}
use Rattle.hush_words.proofs.Inners.{inner-none}
use Rattle.hush_words.proofs.DollarLemmas.{begins-here}
use Rattle.hush_words.proofs.PieceLemmas.{piece-one}

pub closed-not : {P : Type 0} (k : ℕ) (p : P) (bs : List ℕ) → begins k bs ≡ false → closed k p bs ≡ None
closed-not k p [] e = refl
closed-not k p (b ∷ bs) e = rw e refl

closed-self : {P : Type 0} (k : ℕ) (p : P) (bs : List ℕ) → closed k p (k ∷ bs) ≡ found p bs
closed-self k p bs = let e : (k == k) ≡ true = eq-eqb k k refl in rw e refl

pub closed-here : {P : Type 0} (k : ℕ) (p : P) (source : List ℕ) (at : ℕ) → begins k (drop at source) ≡ true →
    closed k p (drop at source) ≡ found p (drop (at + 1) source)
closed-here k p source at e = ap (closed k p) (begins-here k source at e).1 ∙ closed-self k p (drop (at + 1) source)

double-read : (text : List ℕ) → double_at text ≡ closed 34 (Double (all inner_at text).0) (inner_end text)
unfolding double_at inner_end
double-read text = refl

double-there : (source : List ℕ) (place at : ℕ) → StandsAt source place 34 → inner_at (drop at source) ≡ None →
    inner_end (drop at source) ≡ inner_end (drop (place + 1) source) →
    piece_at (drop place source) ≡ closed 34 (Double (all inner_at (drop (place + 1) source)).0) (drop at source)
double-there source place at here none ends =
    ap piece_at here.1 ∙ piece-double (drop (place + 1) source) ∙ double-read (drop (place + 1) source)
    ∙ ap (closed 34 (Double (all inner_at (drop (place + 1) source)).0)) (sym ends ∙ (inner-none (drop at source) none).1)

pub double-closes : (source : List ℕ) (place at : ℕ) → StandsAt source place 34 → inner_at (drop at source) ≡ None →
    begins 34 (drop at source) ≡ true → inner_end (drop at source) ≡ inner_end (drop (place + 1) source) →
    option_map (λ (f : Piece × List ℕ). f.1) (piece_at (drop place source)) ≡ Some (drop (at + 1) source)
double-closes source place at here none quote ends =
    ap (λ o. option_map (λ (f : Piece × List ℕ). f.1) o)
    (double-there source place at here none ends
    ∙ closed-here 34 (Double (all inner_at (drop (place + 1) source)).0) source at quote)

pub double-open : (source : List ℕ) (place at : ℕ) → StandsAt source place 34 → inner_at (drop at source) ≡ None →
    begins 34 (drop at source) ≡ false → inner_end (drop at source) ≡ inner_end (drop (place + 1) source) →
    piece_at (drop place source) ≡ None
double-open source place at here none quote ends =
    double-there source place at here none ends ∙ closed-not 34 (Double (all inner_at (drop (place + 1) source)).0) (drop at source) quote

single-read : (text : List ℕ) → single_at text ≡ closed 39 (Single (front (λ b. not (b == 39)) text)) (behind (λ b. not (b == 39)) text)
unfolding single_at
single-read text = refl

-- where a run up to a byte ends before the text does, the byte is there
pub run-stops : (byte : ℕ) (source : List ℕ) (start end : ℕ) → IsRun (λ b. not (b == byte)) source start end →
    (end ≡ length source → ⊥) → begins byte (drop end source) ≡ true
run-stops byte source start end run more =
    let lt : end < length source = omega (arith, run.1) in
    let next' : end + 1 ≡ suc end = omega arith in
    let here : drop end source ≡ get_or source end 0 ∷ drop (suc end) source = drop-cons source end 0 lt in
    let stops = behind-next (λ b. not (b == byte)) (drop start source) in
    let stops' = subst (λ l. next (λ b. not (not (b == byte))) l ≡ true) (sym run.3 ∙ here) stops in
    ap (begins byte) here ∙ not-false (get_or source end 0 == byte) (not-true (not (get_or source end 0 == byte)) stops')

pub single-there : (source : List ℕ) (place end : ℕ) → StandsAt source place 39 → IsRun (λ b. not (b == 39)) source (place + 1) end →
    piece_at (drop place source) ≡ closed 39 (Single (take (end - (place + 1)) (drop (place + 1) source))) (drop end source)
single-there source place end here run =
    ap piece_at here.1 ∙ piece-single (drop (place + 1) source) ∙ single-read (drop (place + 1) source)
    ∙ ap (λ l. closed 39 (Single l) (behind (λ b. not (b == 39)) (drop (place + 1) source))) (sym run.2)
    ∙ ap (λ l. closed 39 (Single (take (end - (place + 1)) (drop (place + 1) source))) l) (sym run.3)

pub single-open : (source : List ℕ) (place end : ℕ) → StandsAt source place 39 → IsRun (λ b. not (b == 39)) source (place + 1) end →
    end ≡ length source → piece_at (drop place source) ≡ None
single-open source place end here run e =
    single-there source place end here run
    ∙ ap (closed 39 (Single (take (end - (place + 1)) (drop (place + 1) source)))) (drop_all end source (omega arith))

pub single-closes : (source : List ℕ) (place end : ℕ) → StandsAt source place 39 →
    IsRun (λ b. not (b == 39)) source (place + 1) end → (end ≡ length source → ⊥) →
    option_map (λ (f : Piece × List ℕ). f.1) (piece_at (drop place source)) ≡ Some (drop (end + 1) source)
single-closes source place end here run more =
    ap (λ o. option_map (λ (f : Piece × List ℕ). f.1) o)
    (single-there source place end here run
    ∙ closed-here 39 (Single (take (end - (place + 1)) (drop (place + 1) source))) source end (run-stops 39 source (place + 1) end run more))

-- what closes is there, if something ends after it
closed-some : {P : Type 0} (k : ℕ) (p : P) (bs rest : List ℕ) → option_map (λ (f : P × List ℕ). f.1) (closed k p bs) ≡ Some rest → begins k bs ≡ true
closed-some k p [] rest e = absurd (cc)
closed-some k p (b ∷ bs) rest e =
    elim (cases_Bool (b == k)) [
      | inl same ↦ same
      | inr other ↦ absurd (let none = rw other at e in cc)
    ]

closed-is : {P : Type 0} (k : ℕ) (p : P) (bs : List ℕ) → begins k bs ≡ true → closed k p bs ≡ found p (drop 1 bs)
closed-is k p [] e = absurd (both_ways false refl e)
closed-is k p (b ∷ bs) e = rw e refl

-- into a pair of quotes that is closed
pub single-opens : (source : List ℕ) (at : ℕ) (rest : List ℕ) → StandsAt source at 39 →
    option_map (λ (f : Piece × List ℕ). f.1) (piece_at (drop at source)) ≡ Some rest →
    Closes inside.Single (drop (at + 1) source) × (piece_atoms_left (drop at source) ≡ Mark ∷ atoms_left inside.Single (drop (at + 1) source))
single-opens source at rest here h =
    let bs : List ℕ = drop (at + 1) source in
    let p : Piece = Single (front (λ b. not (b == 39)) bs) in
    let e : piece_at (drop at source) ≡ closed 39 p (behind (λ b. not (b == 39)) bs) = ap piece_at here.1 ∙ piece-single bs ∙ single-read bs in
    let shut = closed-some 39 p (behind (λ b. not (b == 39)) bs) rest (ap (λ o. option_map (λ (f : Piece × List ℕ). f.1) o) (sym e) ∙ h) in
    (shut, (piece-one (drop at source) p (drop 1 (behind (λ b. not (b == 39)) bs)) (e ∙ closed-is 39 p (behind (λ b. not (b == 39)) bs) shut)).0)

double-atoms : (text rest : List ℕ) → piece_atoms (Double (all inner_at text).0) ++ piece_atoms_left rest ≡ Mark ∷ (inner_left text ++ piece_atoms_left rest)
unfolding inner_left
double-atoms text rest = refl

pub double-opens : (source : List ℕ) (at : ℕ) (rest : List ℕ) → StandsAt source at 34 →
    option_map (λ (f : Piece × List ℕ). f.1) (piece_at (drop at source)) ≡ Some rest →
    Closes inside.Double (drop (at + 1) source) × (piece_atoms_left (drop at source) ≡ Mark ∷ atoms_left inside.Double (drop (at + 1) source))
double-opens source at rest here h =
    let bs : List ℕ = drop (at + 1) source in
    let p : Piece = Double (all inner_at bs).0 in
    let e : piece_at (drop at source) ≡ closed 34 p (inner_end bs) = ap piece_at here.1 ∙ piece-double bs ∙ double-read bs in
    let shut = closed-some 34 p (inner_end bs) rest (ap (λ o. option_map (λ (f : Piece × List ℕ). f.1) o) (sym e) ∙ h) in (
      shut,
      (piece-one (drop at source) p (drop 1 (inner_end bs)) (e ∙ closed-is 34 p (inner_end bs) shut)).0 ∙ double-atoms bs (drop 1 (inner_end bs)),
    )

-- the rest of a pair of single quotes
pub single-left : (source : List ℕ) (at end : ℕ) → IsRun (λ b. not (b == 39)) source at end →
    begins 39 (behind (λ b. not (b == 39)) (drop at source)) ≡ true →
    (end < length source) × (atoms_left inside.Single (drop at source) ≡ map Quoted (range_bytes source at end) ++ piece_atoms_left (drop (end + 1) source))
single-left source at end run shut =
    let here = begins-here 39 source end (ap (begins 39) run.3 ∙ shut) in (
      here.0,
      ap (λ l. map Quoted l ++ piece_atoms_left (drop 1 (behind (λ b. not (b == 39)) (drop at source)))) (sym run.2)
          ∙ ap (λ l. map Quoted (range_bytes source at end) ++ piece_atoms_left l)
          (ap (drop 1) (sym run.3) ∙ drop-drop 1 end source),
    )

-- the quote that closes a pair of double quotes
pub double-left : (source : List ℕ) (at : ℕ) → inner_at (drop at source) ≡ None → begins 34 (inner_end (drop at source)) ≡ true →
    (at < length source) × (atoms_left inside.Double (drop at source) ≡ piece_atoms_left (drop (at + 1) source))
double-left source at none shut =
    let e = inner-none (drop at source) none in
    let here = begins-here 34 source at (ap (begins 34) (sym e.1) ∙ shut) in (
      here.0,
      ap (λ l. l ++ piece_atoms_left (drop 1 (inner_end (drop at source)))) e.0
          ∙ ap (λ l. piece_atoms_left (drop 1 l)) e.1 ∙ ap piece_atoms_left (drop-drop 1 at source),
    )

-- what is before it
pub double-on : (left more rest : List Atom) (end after : List ℕ) → left ≡ more ++ rest → end ≡ after →
    (left ++ piece_atoms_left (drop 1 end) ≡ more ++ (rest ++ piece_atoms_left (drop 1 after)))
double-on left more rest end after e f =
    ap (λ l. l ++ piece_atoms_left (drop 1 end)) e ∙ append_assoc more rest (piece_atoms_left (drop 1 end))
    ∙ ap (λ l. more ++ (rest ++ piece_atoms_left (drop 1 l))) f

-- a quote is there to be closed
pub single-within : (source : List ℕ) (at : ℕ) → begins 39 (behind (λ b. not (b == 39)) (drop at source)) ≡ true → at < length source
single-within source at shut =
    elim (cases_lt at (length source)) [
      | inl lt ↦ lt
      | inr ge ↦ absurd (both_ways false refl (ap (λ l. begins 39 (behind (λ b. not (b == 39)) l)) (sym (drop_all at source ge)) ∙ shut))
    ]
