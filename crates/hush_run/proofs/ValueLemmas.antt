-- Parts of words that have no value.
use Rattle.std.proofs.Common.{◌≡◌, ℕ, Bool, true, false, ◌||◌, List, [], ◌∷◌, ◌++◌, map, refl, sym, ap, ◌∙◌}
use Rattle.std.specs.List.{list_any}
use Rattle.std.proofs.lemmas.List.Folds.{list_any-append}
use Rattle.hush_words.specs.Words.{Atom}
use Rattle.hush_words.specs.Words.Atom.{Plain, Quoted}
use Rattle.hush_words.specs.declared.parts.Part.{Part}
use Rattle.hush_words.specs.declared.parts.Part.TheVariants as part
use Rattle.hush_words.specs.declared.parts.Span.{Span}
use Rattle.hush_words.specs.Parts.{span_bytes, part_atoms}
use Rattle.hush_run.specs.Meaning.{is_value}

plain-none : (bs : List ℕ) → list_any is_value (map Plain bs) ≡ false
plain-none [] = refl
plain-none (b ∷ bs) = plain-none bs

quoted-none : (bs : List ℕ) → list_any is_value (map Quoted bs) ≡ false
quoted-none [] = refl
quoted-none (b ∷ bs) = quoted-none bs

pub no_value : (source : List ℕ) (p : Part) → ((span : Span) (quoted : Bool) → p ≡ part.Value span quoted → ⊥) → ((quoted : Bool) → p ≡ part.Status quoted → ⊥) → false ≡ list_any is_value (part_atoms source p)
no_value source (part.Plain s) with_value with_status = sym (plain-none (span_bytes source s))
no_value source (part.Quoted s) with_value with_status = sym (quoted-none (span_bytes source s))
no_value source part.Mark with_value with_status = refl
no_value source (part.Value s quoted) with_value with_status = absurd (with_value s quoted refl)
no_value source (part.Status quoted) with_value with_status = absurd (with_status quoted refl)

-- a part, and those after it
pub found : (source : List ℕ) (atoms rest : List Atom) (p : Part) → atoms ≡ part_atoms source p ++ rest → true ≡ list_any is_value (part_atoms source p) → true ≡ list_any is_value atoms
found source atoms rest p e is =
    ap (λ (b : Bool). b || list_any is_value rest) is ∙ sym (ap (list_any is_value) e ∙ list_any-append is_value (part_atoms source p) rest)

pub passed : (source : List ℕ) (atoms rest : List Atom) (p : Part) → atoms ≡ part_atoms source p ++ rest → false ≡ list_any is_value (part_atoms source p) → list_any is_value rest ≡ list_any is_value atoms
passed source atoms rest p e isnt =
    ap (λ (b : Bool). b || list_any is_value rest) isnt ∙ sym (ap (list_any is_value) e ∙ list_any-append is_value (part_atoms source p) rest)
