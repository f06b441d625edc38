-- The unquoted plain bytes of words.
use Rattle.std.proofs.Common.{◌≡◌, ℕ, Bool, true, false, List, [], ◌∷◌, ◌++◌, map, Option, Some, None, refl, sym, ap, ◌∙◌, append_assoc, is_some, option_map, unwrap_or, if◌then◌else◌}
use Rattle.hush_words.specs.Words.{Atom}
use Rattle.hush_words.specs.Words.Atom.{Plain, Quoted, Value, Status, Mark}
use Rattle.hush_words.specs.Forms.{name_of, name_from, goes_on}
use Rattle.hush_words.specs.declared.parts.Part.{Part}
use Rattle.hush_words.specs.declared.parts.Part.TheVariants as part
use Rattle.hush_words.specs.declared.parts.Span.{Span}
use Rattle.hush_words.specs.Parts.{span_bytes, part_atoms}
use Rattle.hush_run.specs.Steps.{plain_bytes}

pub plain-append : (xs ys : List Atom) → plain_bytes (xs ++ ys) ≡ plain_bytes xs ++ plain_bytes ys
plain-append [] ys = refl
plain-append (Plain b ∷ xs) ys = ap (λ (bs : List ℕ). b ∷ bs) (plain-append xs ys)
plain-append (Quoted b ∷ xs) ys = plain-append xs ys
plain-append (Mark ∷ xs) ys = plain-append xs ys
plain-append (Value n q ∷ xs) ys = plain-append xs ys
plain-append (Status q ∷ xs) ys = plain-append xs ys

pub plain-plain : (bs : List ℕ) → plain_bytes (map Plain bs) ≡ bs
plain-plain [] = refl
plain-plain (b ∷ bs) = ap (λ (xs : List ℕ). b ∷ xs) (plain-plain bs)

pub plain-quoted : (bs : List ℕ) → plain_bytes (map Quoted bs) ≡ []
plain-quoted [] = refl
plain-quoted (b ∷ bs) = plain-quoted bs

-- a word that is a name
some-mapped : (b : ℕ) (o : Option (List ℕ)) → is_some (option_map (λ (n : List ℕ). b ∷ n) o) ≡ true → is_some o ≡ true
some-mapped b None h = h
some-mapped b (Some n) h = refl

named-by : (t : Bool) (b : ℕ) (o : Option (List ℕ)) (bs : List ℕ) → is_some (if t then option_map (λ (n : List ℕ). b ∷ n) o else None) ≡ true → (is_some o ≡ true → o ≡ Some bs) → (if t then option_map (λ (n : List ℕ). b ∷ n) o else None) ≡ Some (b ∷ bs)
named-by true b o bs h is = ap (λ (x : Option (List ℕ)). option_map (λ (n : List ℕ). b ∷ n) x) (is (some-mapped b o h))
named-by false b o bs h is = absurd (let f : false ≡ true = h in cc)

named : (begun : Bool) (atoms : List Atom) → is_some (name_from begun atoms) ≡ true → name_from begun atoms ≡ Some (plain_bytes atoms)
named true [] h = refl
named false [] h = absurd (let f : false ≡ true = h in cc)
named begun (Plain b ∷ atoms) h = named-by (goes_on begun b) b (name_from true atoms) (plain_bytes atoms) h (λ s. named true atoms s)
named begun (Quoted b ∷ atoms) h = absurd (let f : false ≡ true = h in cc)
named begun (Mark ∷ atoms) h = absurd (let f : false ≡ true = h in cc)
named begun (Value n q ∷ atoms) h = absurd (let f : false ≡ true = h in cc)
named begun (Status q ∷ atoms) h = absurd (let f : false ≡ true = h in cc)

pub name_is : (atoms : List Atom) → is_some (name_of atoms) ≡ true → plain_bytes atoms ≡ unwrap_or (name_of atoms) []
unfolding name_of
name_is atoms h = sym (ap (λ (o : Option (List ℕ)). unwrap_or o []) (named false atoms h))

-- a part's plain bytes, and what is after it
pub plain_of : (source : List ℕ) (p : Part) (span : Span) (bytes : List ℕ) → p ≡ part.Plain span → bytes ≡ span_bytes source span → bytes ≡ plain_bytes (part_atoms source p)
plain_of source p span bytes is b =
    b ∙ sym (plain-plain (span_bytes source span)) ∙ ap (λ (q : Part). plain_bytes (part_atoms source q)) (sym is)

pub none_of : (source : List ℕ) (p : Part) → ((span : Span) → p ≡ part.Plain span → ⊥) → [] ≡ plain_bytes (part_atoms source p)
none_of source (part.Plain s) h = absurd (h s refl)
none_of source (part.Quoted s) h = sym (plain-quoted (span_bytes source s))
none_of source part.Mark h = refl
none_of source (part.Value s quoted) h = refl
none_of source (part.Status quoted) h = refl

pub plain_on : (source : List ℕ) (atoms rest : List Atom) (p : Part) (bytes name more whole : List ℕ) → atoms ≡ part_atoms source p ++ rest → bytes ≡ plain_bytes (part_atoms source p) → more ≡ name ++ bytes → name ++ plain_bytes atoms ≡ whole → more ++ plain_bytes rest ≡ whole
plain_on source atoms rest p bytes name more whole e b m read =
    ap (λ (xs : List ℕ). xs ++ plain_bytes rest) (m ∙ ap (λ (xs : List ℕ). name ++ xs) b)
    ∙ append_assoc name (plain_bytes (part_atoms source p)) (plain_bytes rest)
    ∙ ap (λ (xs : List ℕ). name ++ xs) (sym (plain-append (part_atoms source p) rest))
    ∙ ap (λ (xs : List Atom). name ++ plain_bytes xs) (sym e)
    ∙ read
