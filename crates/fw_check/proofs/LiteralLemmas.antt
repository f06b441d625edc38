-- Words without a substitution and the names in others, part by part.
use Rattle.std.proofs.Common.{◌≡◌, ℕ, Bool, true, false, List, [], ◌∷◌, ◌++◌, map, Option, Some, None, refl, sym, ap, ◌∙◌, append_assoc, append-nil, if◌then◌else◌}
use Rattle.std.specs.Prelude.{is_some, option_map}
use Rattle.hush_words.specs.Forms.{goes_on, name_from, name_of}
use Rattle.hush_words.specs.Parts.{part_atoms, span_bytes}
use Rattle.hush_words.specs.declared.parts.Part.{Part}
use Rattle.hush_words.specs.declared.parts.Part.TheVariants as part
use Rattle.hush_words.specs.Words.{Atom}
use Rattle.hush_words.specs.Words.Atom.{Plain, Quoted, Mark, Value, Status}
use Rattle.fw_check.specs.Literals.{Front, front_of, front_with, literal_of, substituted, whole_of}

pub plain-literal : (bs : List ℕ) → literal_of (map Plain bs) ≡ Some bs
plain-literal [] = refl
plain-literal (b ∷ bs) = ap (option_map (λ xs. b ∷ xs)) (plain-literal bs)

pub quoted-literal : (bs : List ℕ) → literal_of (map Quoted bs) ≡ Some bs
quoted-literal [] = refl
quoted-literal (b ∷ bs) = ap (option_map (λ xs. b ∷ xs)) (quoted-literal bs)

-- these bytes before others
abbrev pub before : List ℕ → Front → Front
before bytes front = record { bytes = bytes ++ front.bytes; whole = front.whole }

before-before : (xs ys : List ℕ) (front : Front) → before xs (before ys front) ≡ before (xs ++ ys) front
before-before xs ys front = ap (λ (l : List ℕ). let f : Front = record { bytes = l; whole = front.whole } in f) (sym (append_assoc xs ys front.bytes))

-- by what the first atoms of a word are
abbrev after : Option (List ℕ) → Front → Front
after None front = record { bytes = []; whole = false }
after (Some bytes) front = before bytes front

front-after : (b : ℕ) (bytes : Option (List ℕ)) (front : Front) → is_some bytes ≡ true → front_with b (after bytes front) ≡ after (option_map (λ bs. b ∷ bs) bytes) front
front-after b None front h = absurd (let no : false ≡ true = h in cc)
front-after b (Some bytes) front h = refl

is_some-mapped : (b : ℕ) (bytes : Option (List ℕ)) → is_some (option_map (λ bs. b ∷ bs) bytes) ≡ is_some bytes
is_some-mapped b None = refl
is_some-mapped b (Some bytes) = refl

-- the first atoms have no substitution
front-append : (xs ys : List Atom) → is_some (literal_of xs) ≡ true → front_of (xs ++ ys) ≡ after (literal_of xs) (front_of ys)
front-append [] ys h = refl
front-append (Plain b ∷ xs) ys h =
    let there = sym (is_some-mapped b (literal_of xs)) ∙ h in
    ap (front_with b) (front-append xs ys there) ∙ front-after b (literal_of xs) (front_of ys) there
front-append (Quoted b ∷ xs) ys h =
    let there = sym (is_some-mapped b (literal_of xs)) ∙ h in
    ap (front_with b) (front-append xs ys there) ∙ front-after b (literal_of xs) (front_of ys) there
front-append (Mark ∷ xs) ys h = front-append xs ys h
front-append (Value n q ∷ xs) ys h = absurd (let no : false ≡ true = h in cc)
front-append (Status q ∷ xs) ys h = absurd (let no : false ≡ true = h in cc)

whole-by : (b : ℕ) (bytes : List ℕ) (whole : Bool) → (if whole then Some (b ∷ bytes) else None) ≡ option_map (λ bs. b ∷ bs) (if whole then Some bytes else None)
whole-by b bytes true = refl
whole-by b bytes false = refl

whole-with : (b : ℕ) (front : Front) → whole_of (front_with b front) ≡ option_map (λ bs. b ∷ bs) (whole_of front)
whole-with b front = whole-by b front.bytes front.whole

-- the word, if it has no substitution
pub whole-is : (atoms : List Atom) → whole_of (front_of atoms) ≡ literal_of atoms
whole-is [] = refl
whole-is (Plain b ∷ atoms) = whole-with b (front_of atoms) ∙ ap (option_map (λ bs. b ∷ bs)) (whole-is atoms)
whole-is (Quoted b ∷ atoms) = whole-with b (front_of atoms) ∙ ap (option_map (λ bs. b ∷ bs)) (whole-is atoms)
whole-is (Mark ∷ atoms) = whole-is atoms
whole-is (Value n q ∷ atoms) = refl
whole-is (Status q ∷ atoms) = refl

-- a part with these bytes was read
pub front-on : (all left part rest : List Atom) (bytes more : List ℕ) → left ≡ part ++ rest → Some more ≡ literal_of part →
    before bytes (front_of left) ≡ front_of all → before (bytes ++ more) (front_of rest) ≡ front_of all
front-on all left part rest bytes more cut is so_far =
    sym (before-before bytes more (front_of rest))
    ∙ ap (λ (o : Option (List ℕ)). before bytes (after o (front_of rest))) is
    ∙ ap (before bytes) (sym (front-append part rest (ap (λ (o : Option (List ℕ)). is_some o) (sym is))) ∙ ap front_of (sym cut)) ∙ so_far

-- and one that is a substitution
one-stops : (source : List ℕ) (p : Part) (rest : List Atom) (bytes : List ℕ) → None ≡ literal_of (part_atoms source p) → before bytes (front_of (part_atoms source p ++ rest)) ≡ record { bytes = bytes; whole = false }
one-stops source (part.Plain s) rest bytes none = absurd (let no : ◌≡◌ {A = Option (List ℕ)} None (Some (span_bytes source s)) = none ∙ plain-literal (span_bytes source s) in cc)
one-stops source (part.Quoted s) rest bytes none = absurd (let no : ◌≡◌ {A = Option (List ℕ)} None (Some (span_bytes source s)) = none ∙ quoted-literal (span_bytes source s) in cc)
one-stops source part.Mark rest bytes none = absurd (let no : ◌≡◌ {A = Option (List ℕ)} None (Some []) = none in cc)
one-stops source (part.Value s q) rest bytes none = ap (λ (l : List ℕ). let f : Front = record { bytes = l; whole = false } in f) (append-nil bytes)
one-stops source (part.Status q) rest bytes none = ap (λ (l : List ℕ). let f : Front = record { bytes = l; whole = false } in f) (append-nil bytes)

pub front-stops : (source : List ℕ) (p : Part) (all left rest : List Atom) (bytes : List ℕ) → left ≡ part_atoms source p ++ rest → None ≡ literal_of (part_atoms source p) →
    before bytes (front_of left) ≡ front_of all → record { bytes = bytes; whole = false } ≡ front_of all
front-stops source p all left rest bytes cut none so_far = sym (one-stops source p rest bytes none) ∙ ap (λ (xs : List Atom). before bytes (front_of xs)) (sym cut) ∙ so_far

-- ---- names

plain-named : (t : Bool) (b : ℕ) (bytes named : Option (List ℕ)) → is_some (if t then option_map (λ n. b ∷ n) named else None) ≡ true → (is_some named ≡ true → bytes ≡ named) →
    option_map (λ n. b ∷ n) bytes ≡ (if t then option_map (λ n. b ∷ n) named else None)
plain-named true b bytes None h same = absurd (let no : false ≡ true = h in cc)
plain-named true b bytes (Some n) h same = ap (option_map (λ n. b ∷ n)) (same refl)
plain-named false b bytes named h same = absurd (let no : false ≡ true = h in cc)

from-named : (begun : Bool) (atoms : List Atom) → is_some (name_from begun atoms) ≡ true → literal_of atoms ≡ name_from begun atoms
from-named true [] h = refl
from-named false [] h = absurd (let no : false ≡ true = h in cc)
from-named begun (Plain b ∷ atoms) h = plain-named (goes_on begun b) b (literal_of atoms) (name_from true atoms) h (from-named true atoms)
from-named begun (Quoted b ∷ atoms) h = absurd (let no : false ≡ true = h in cc)
from-named begun (Mark ∷ atoms) h = absurd (let no : false ≡ true = h in cc)
from-named begun (Value n q ∷ atoms) h = absurd (let no : false ≡ true = h in cc)
from-named begun (Status q ∷ atoms) h = absurd (let no : false ≡ true = h in cc)

-- a word that is a name has no substitution, and the name's bytes
pub named-literal : (atoms : List Atom) → is_some (name_of atoms) ≡ true → literal_of atoms ≡ name_of atoms
unfolding name_of
named-literal atoms h = from-named false atoms h

-- ---- substitutions

pub plain-names : (bs : List ℕ) → substituted (map Plain bs) ≡ []
plain-names [] = refl
plain-names (b ∷ bs) = plain-names bs

pub quoted-names : (bs : List ℕ) → substituted (map Quoted bs) ≡ []
quoted-names [] = refl
quoted-names (b ∷ bs) = quoted-names bs

substituted-append : (xs ys : List Atom) → substituted (xs ++ ys) ≡ substituted xs ++ substituted ys
substituted-append [] ys = refl
substituted-append (Plain b ∷ xs) ys = substituted-append xs ys
substituted-append (Quoted b ∷ xs) ys = substituted-append xs ys
substituted-append (Mark ∷ xs) ys = substituted-append xs ys
substituted-append (Value n q ∷ xs) ys = ap (λ (ns : List (List ℕ)). n ∷ ns) (substituted-append xs ys)
substituted-append (Status q ∷ xs) ys = substituted-append xs ys

pub names-on : (all left part rest : List Atom) (names more : List (List ℕ)) → left ≡ part ++ rest → more ≡ names ++ substituted part →
    names ++ substituted left ≡ substituted all → more ++ substituted rest ≡ substituted all
names-on all left part rest names more cut is so_far =
    ap (λ (ns : List (List ℕ)). ns ++ substituted rest) is
    ∙ append_assoc names (substituted part) (substituted rest)
    ∙ ap (λ (ns : List (List ℕ)). names ++ ns) (sym (substituted-append part rest) ∙ ap substituted (sym cut)) ∙ so_far
