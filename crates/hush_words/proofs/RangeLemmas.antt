-- Ranges of a source, and of a prefix of it.
use Rattle.std.specs.Prelude.{◌≡◌, ℕ, ◌+◌, ◌-◌, ◌≤◌, List, [], ◌∷◌, map, length, take, drop}
use Rattle.std.proofs.Common.{refl, sym, ◌∙◌, ap, arith, length-take, inl, inr}
use Rattle.std.proofs.lemmas.Bool.{cases_lt}
use Rattle.std.proofs.lemmas.List.{drop_all, drop-take, take-take}
use Rattle.hush_words.specs.Words.Atom.{Plain, Quoted, Value}
use Rattle.hush_words.specs.Parts.{range_bytes, span_bytes, part_atoms}
use Rattle.hush_words.specs.Ranges.{IsWithin, Fits}
use Rattle.hush_words.specs.Steps.{StandsAt}
use Rattle.hush_words.specs.declared.parts.Part.{Part}
use Rattle.hush_words.specs.declared.parts.Part.TheVariants as part
use Rattle.hush_words.specs.declared.parts.Span.{Span}

-- one byte as a part
pub byte-within : (source : List ℕ) (place b : ℕ) → StandsAt source place b → (place ≤ place + 1) × (place + 1 ≤ length source)
byte-within source place b here = (omega arith, omega (arith, here.0))

-- what is left of a prefix of a source
pub front-drop : (source : List ℕ) (start end : ℕ) → drop start (take end source) ≡ range_bytes source start end
front-drop source start end =
    elim (cases_lt start end) [
      | inl lt ↦
          let sum' : start + (end - start) ≡ end = omega arith in
          ap (λ n. drop start (take n source)) (sym sum') ∙ drop-take start (end - start) source
      | inr ge ↦
          let none : end - start ≡ 0 = omega arith in
          drop_all start (take end source) (omega (arith, length-take end source)) ∙ sym (ap (λ n. take n (drop start source)) none)
    ]

-- a range of a prefix is one of the source
pub front-range : (source : List ℕ) (start mid end : ℕ) → mid ≤ end → range_bytes (take end source) start mid ≡ range_bytes source start mid
front-range source start mid end le =
    ap (take (mid - start)) (front-drop source start end) ∙ take-take (mid - start) (end - start) (drop start source) (omega arith)

within-front : (source : List ℕ) (end : ℕ) (s : Span) → IsWithin (take end source) s → (s.end ≤ end) × IsWithin source s
within-front source end s w = (omega (arith, w.1, length-take end source), (w.0, omega (arith, w.1, length-take end source)))

same-span : (source : List ℕ) (end : ℕ) (s : Span) → IsWithin (take end source) s → span_bytes (take end source) s ≡ span_bytes source s
same-span source end s w = front-range source s.start s.end end (within-front source end s w).0

pub front-atoms : (source : List ℕ) (end : ℕ) (p : Part) → Fits (take end source) p → part_atoms (take end source) p ≡ part_atoms source p
front-atoms source end (part.Plain s) fit = ap (map Plain) (same-span source end s fit)
front-atoms source end (part.Quoted s) fit = ap (map Quoted) (same-span source end s fit)
front-atoms source end part.Mark fit = refl
front-atoms source end (part.Value s quoted) fit = ap (λ n. Value n quoted ∷ []) (same-span source end s fit)
front-atoms source end (part.Status quoted) fit = refl

pub front-fits : (source : List ℕ) (end : ℕ) (p : Part) → Fits (take end source) p → Fits source p
front-fits source end (part.Plain s) fit = (within-front source end s fit).1
front-fits source end (part.Quoted s) fit = (within-front source end s fit).1
front-fits source end part.Mark fit = tt
front-fits source end (part.Value s quoted) fit = (within-front source end s fit).1
front-fits source end (part.Status quoted) fit = tt
