-- The forms of a word, read part by part.
use Rattle.std.specs.Prelude.{◌≡◌, ℕ, ◌+◌, ◌<◌, ◌==◌, Bool, true, false, List, [], ◌∷◌, ◌++◌, map, length, take, drop, Option, Some, None}
use Rattle.std.specs.Option.{option_map}
use Rattle.std.proofs.Common.{refl, sym, ◌∙◌, ap, subst, arith, length-take, inl, inr, nat_eq}
use Rattle.std.proofs.lemmas.Bool.{cases_Bool, and_left, both_ways, ne_eqb, and_parts}
use lib.Pointwise.{pointwise}
use Rattle.hush_words.specs.Words.{Atom}
use Rattle.hush_words.specs.Words.Atom.{Plain, Quoted, Mark, Value, Status}
use Rattle.hush_words.specs.Forms.{is_plain, name_of, assignment_of, split_of}
use Rattle.hush_words.specs.Parts.{range_bytes, part_atoms}
use Rattle.hush_words.specs.Ranges.{Fits}
use Rattle.hush_words.specs.Reading.{piece_atoms_left}
use Rattle.hush_words.specs.Steps.{begins_otherwise, PlainRest, SplitsAt}
use Rattle.hush_words.specs.declared.parts.Part.{Part}
use Rattle.hush_words.proofs.RangeLemmas.{front-drop, front-range}
use Rattle.hush_words.proofs.Told.{assignment-told, name-told}

pub otherwise-plain : (text : List ℕ) (atoms more : List Atom) → begins_otherwise atoms ≡ true → is_plain text (atoms ++ more) ≡ false
unfolding is_plain
otherwise-plain text [] more e = absurd (both_ways false refl e)
otherwise-plain text (Plain b ∷ atoms) more e = absurd (both_ways false refl e)
otherwise-plain [] (Quoted b ∷ atoms) more e = refl
otherwise-plain [] (Mark ∷ atoms) more e = refl
otherwise-plain [] (Value n q ∷ atoms) more e = refl
otherwise-plain [] (Status q ∷ atoms) more e = refl
otherwise-plain (t ∷ text) (Quoted b ∷ atoms) more e = refl
otherwise-plain (t ∷ text) (Mark ∷ atoms) more e = refl
otherwise-plain (t ∷ text) (Value n q ∷ atoms) more e = refl
otherwise-plain (t ∷ text) (Status q ∷ atoms) more e = refl

-- a text that begins with plain bytes, and one that doesn't
pub plain-prefix : (bytes text : List ℕ) (more : List Atom) → pointwise nat_eq bytes (take (length bytes) text) ≡ true →
    is_plain text (map Plain bytes ++ more) ≡ is_plain (drop (length bytes) text) more
unfolding is_plain
plain-prefix [] text more e = refl
plain-prefix (b ∷ bs) [] more e = absurd (both_ways false refl e)
plain-prefix (b ∷ bs) (t ∷ ts) more e =
    let p = and_parts (b == t) (pointwise nat_eq bs (take (length bs) ts)) e in
    let first : (b == t) ≡ true = p.0 in
    rw first (plain-prefix bs ts more p.1)

pub not-prefix : (bytes text : List ℕ) (more : List Atom) → pointwise nat_eq bytes (take (length bytes) text) ≡ false →
    is_plain text (map Plain bytes ++ more) ≡ false
unfolding is_plain
not-prefix [] text more e = absurd (both_ways true e refl)
not-prefix (b ∷ bs) [] more e = refl
not-prefix (b ∷ bs) (t ∷ ts) more e =
    elim (cases_Bool (b == t)) [
      | inl same ↦ rw same (not-prefix bs ts more (rw same at e))
      | inr other ↦ and_left (b == t) (is_plain ts (map Plain bs ++ more)) other
    ]

pub nothing-plain : (text : List ℕ) → is_plain text [] ≡ (length text == 0)
unfolding is_plain
nothing-plain [] = refl
nothing-plain (t ∷ text) = sym (ne_eqb (length (t ∷ text)) 0 (λ e. omega arith))

-- a word's two sides, as ranges of the same text
pub sides : (source : List ℕ) (start end at : ℕ) → SplitsAt (take end source) start (Some at) →
    ◌≡◌ {A = Option (Option (List ℕ) × List Atom)}
    (Some (name_of (piece_atoms_left (range_bytes source start at)), piece_atoms_left (range_bytes source (at + 1) end)))
    (split_of (piece_atoms_left (range_bytes source start end)))
sides source start end at (ordered, within, n, read, split) =
    let low : at < end = omega (arith, within, length-take end source) in
    let word : drop start (take end source) ≡ range_bytes source start end = front-drop source start end in
    let name : range_bytes (take end source) start at ≡ range_bytes source start at = front-range source start at end (omega arith) in
    let value : drop (at + 1) (take end source) ≡ range_bytes source (at + 1) end = front-drop source (at + 1) end in
    let split' : assignment_of (piece_atoms_left (range_bytes source start end)) ≡ Some (n, piece_atoms_left (range_bytes source (at + 1) end)) =
    sym (ap (λ l. assignment_of (piece_atoms_left l)) word) ∙ split ∙ ap (λ l. Some (n, piece_atoms_left l)) value in
    let is = (assignment-told n (piece_atoms_left (range_bytes source (at + 1) end)) (piece_atoms_left (range_bytes source start end))).0 split' in
    let named : name_of (piece_atoms_left (range_bytes source start at)) ≡ Some n =
    (name-told n (piece_atoms_left (range_bytes source start at))).1 (is.0, sym (ap piece_atoms_left name) ∙ read) in
    ap (λ o. Some (o, piece_atoms_left (range_bytes source (at + 1) end))) named
    ∙ ap (λ o. option_map (λ f. (Some f.0, f.1)) o) (sym split')

pub no-sides : (source : List ℕ) (start end : ℕ) → SplitsAt (take end source) start None →
    assignment_of (piece_atoms_left (range_bytes source start end)) ≡ None
no-sides source start end none = sym (ap (λ l. assignment_of (piece_atoms_left l)) (front-drop source start end)) ∙ none

-- through the parts of a word, which are those of this source
pub fits-in : (left source : List ℕ) (p : Part) → left ≡ source → Fits left p → Fits source p
fits-in left source p e fit = subst (λ l. Fits l p) e fit

stands-for : (left source : List ℕ) (p : Part) (atoms rest : List Atom) → left ≡ source → atoms ≡ part_atoms left p ++ rest → atoms ≡ part_atoms source p ++ rest
stands-for left source p atoms rest e f = f ∙ ap (λ l. part_atoms l p ++ rest) e

pub plain-on : (left source : List ℕ) (p : Part) (atoms rest : List Atom) (text behind : List ℕ) (whole : Bool) → left ≡ source →
    atoms ≡ part_atoms left p ++ rest → PlainRest (part_atoms source p) text (Some behind) → is_plain text atoms ≡ whole → is_plain behind rest ≡ whole
plain-on left source p atoms rest text behind whole e f on kept =
    sym (on rest) ∙ ap (is_plain text) (sym (stands-for left source p atoms rest e f)) ∙ kept

pub plain-off : (left source : List ℕ) (p : Part) (atoms rest : List Atom) (text : List ℕ) (whole : Bool) → left ≡ source →
    atoms ≡ part_atoms left p ++ rest → PlainRest (part_atoms source p) text None → is_plain text atoms ≡ whole → false ≡ whole
plain-off left source p atoms rest text whole e f off kept =
    sym (off rest) ∙ ap (is_plain text) (sym (stands-for left source p atoms rest e f)) ∙ kept
