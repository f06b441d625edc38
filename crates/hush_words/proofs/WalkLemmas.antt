-- A step through the parts of a word.
use Rattle.std.specs.Prelude.{◌≡◌, ℕ, ◌-◌, ◌≤◌, List, ◌++◌, length, take, drop, Option, Some, None}
use Rattle.std.proofs.Common.{refl, sym, ◌∙◌, ap, subst, arith, length-take}
use Rattle.hush_words.specs.Words.{Atom}
use Rattle.hush_words.specs.Parts.{part_atoms}
use Rattle.hush_words.specs.Ranges.{Fits, FitsSome, PartsLeft, TakesPart}
use Rattle.hush_words.specs.Steps.{atoms_left, optional_atoms, StepsTo}
use Rattle.hush_words.specs.declared.parts.Part.{Part}
use Rattle.hush_words.specs.declared.reads.Place.{Place}
use Rattle.hush_words.proofs.RangeLemmas.{front-atoms, front-fits}

-- a part that was read, and none
pub some-part : (source : List ℕ) (p : Option Part) (part : Part) (left rest whole : List Atom) → p ≡ Some part → FitsSome source p →
    left ≡ optional_atoms source p ++ rest → left ≡ whole → Fits source part × (whole ≡ part_atoms source part ++ rest)
some-part source p part left rest whole is fits read same =
    (subst (FitsSome source) is fits, sym same ∙ read ∙ ap (λ o. optional_atoms source o ++ rest) is)

pub no-part : (source : List ℕ) (p : Option Part) (left rest whole : List Atom) → p ≡ None →
    left ≡ optional_atoms source p ++ rest → left ≡ whole → rest ≡ whole
no-part source p left rest whole is read same = sym (read ∙ ap (λ o. optional_atoms source o ++ rest) is) ∙ same

-- what is left after a place of a word that ends there
abbrev pub left_of : List ℕ → ℕ → Place → PartsLeft
left_of source end p = record { source = source; atoms = atoms_left p.inside (drop p.at (take end source)); bytes = end - p.at }

pub part-taken : (source : List ℕ) (end : ℕ) (p q : Place) (part : Part) → end ≤ length source → StepsTo (take end source) p (Some (part, q)) →
    TakesPart (left_of source end p) (left_of source end q) (Some part)
part-taken source end p q part within h = (
  h.4 ∙ ap (λ l. l ++ atoms_left q.inside (drop q.at (take end source))) (front-atoms source end part h.3),
  front-fits source end part h.3,
  refl,
  omega (arith, h.0, h.1, length-take end source),
)
