-- The forms of a word are reported exactly.
use Rattle.std.specs.Prelude.{◌≡◌, ℕ, ◌==◌, ◌&&◌, ◌↔◌, Bool, true, false, List, [], ◌∷◌, ◌++◌, map, Option, Some, None}
use Rattle.std.specs.List.{list_all}
use Rattle.std.specs.Option.{option_map}
use Rattle.std.proofs.Common.{refl, sym, ◌∙◌, ap, subst}
use Rattle.std.proofs.lemmas.Bool.{and_parts, and_from, both_ways, eqb-true, eq-eqb}
use Rattle.hush_words.specs.Words.{Atom, begins_name, is_in_name, is_name}
use Rattle.hush_words.specs.Words.Atom.{Plain, Quoted, Mark, Value, Status}
use Rattle.hush_words.specs.Forms.{IsPlain, IsNameWord, IsAssignment, is_plain, goes_on, with_byte, name_from, name_of, value_from, assignment_from, assignment_of}
use Rattle.hush_words.proofs.Fronts.{on_test}

plain-here : (text : List ℕ) (atoms : List Atom) → is_plain text atoms ≡ true → IsPlain text atoms
unfolding is_plain
plain-here [] [] e = refl
plain-here [] (a ∷ atoms) e = absurd (both_ways false refl e)
plain-here (t ∷ text) [] e = absurd (both_ways false refl e)
plain-here (t ∷ text) (Plain b ∷ atoms) e =
    let p = and_parts (b == t) (is_plain text atoms) e in
    let same : b ≡ t = eqb-true b t p.0 in
    let rest : atoms ≡ map Plain text = plain-here text atoms p.1 in
    ap (λ k. Plain k ∷ atoms) same ∙ ap (λ l. Plain t ∷ l) rest
plain-here (t ∷ text) (Quoted b ∷ atoms) e = absurd (both_ways false refl e)
plain-here (t ∷ text) (Mark ∷ atoms) e = absurd (both_ways false refl e)
plain-here (t ∷ text) (Value n q ∷ atoms) e = absurd (both_ways false refl e)
plain-here (t ∷ text) (Status q ∷ atoms) e = absurd (both_ways false refl e)

plain-self : (text : List ℕ) → is_plain text (map Plain text) ≡ true
unfolding is_plain
plain-self [] = refl
plain-self (t ∷ text) = and_from (t == t) _ (eq-eqb t t refl) (plain-self text)

pub plain-told : (text : List ℕ) (atoms : List Atom) → (is_plain text atoms ≡ true) ↔ IsPlain text atoms
plain-told text atoms =
    (plain-here text atoms, λ e. subst (λ l. is_plain text l ≡ true) (sym e) (plain-self text))

-- a name that has begun goes on in the bytes of a name
goes_all : (begun : Bool) → List ℕ → Bool
goes_all true n = list_all is_in_name n
goes_all false n = is_name n

goes_cons : (begun : Bool) (b : ℕ) (n : List ℕ) → goes_all begun (b ∷ n) ≡ goes_on begun b && list_all is_in_name n
unfolding goes_all is_name
goes_cons true b n = refl
goes_cons false b n = refl

abbrev NameFits : Bool → List Atom → Option (List ℕ) → Type 0
NameFits begun atoms None = Unit {0}
NameFits begun atoms (Some n) = (goes_all begun n ≡ true) × (atoms ≡ map Plain n)

longer-name : (begun : Bool) (b : ℕ) (atoms : List Atom) (o : Option (List ℕ)) → goes_on begun b ≡ true → NameFits true atoms o →
    NameFits begun (Plain b ∷ atoms) (option_map (λ n. b ∷ n) o)
unfolding goes_all
longer-name begun b atoms None e h = tt
longer-name begun b atoms (Some n) e h =
    (goes_cons begun b n ∙ and_from (goes_on begun b) _ e h.0, ap (λ l. Plain b ∷ l) h.1)

name-fits : (begun : Bool) (atoms : List Atom) → NameFits begun atoms (name_from begun atoms)
unfolding goes_all
name-fits true [] = (refl, refl)
name-fits false [] = tt
name-fits begun (Plain b ∷ atoms) =
    on_test (goes_on begun b) (NameFits begun (Plain b ∷ atoms)) _ _
    (λ e. longer-name begun b atoms (name_from true atoms) e (name-fits true atoms)) (λ e. tt)
name-fits begun (Quoted b ∷ atoms) = tt
name-fits begun (Mark ∷ atoms) = tt
name-fits begun (Value n q ∷ atoms) = tt
name-fits begun (Status q ∷ atoms) = tt

name-more : (n : List ℕ) → list_all is_in_name n ≡ true → name_from true (map Plain n) ≡ Some n
name-more [] e = refl
name-more (b ∷ n) e =
    let p = and_parts (is_in_name b) (list_all is_in_name n) e in
    let first : is_in_name b ≡ true = p.0 in
    rw first (ap (λ o. option_map (λ m. b ∷ m) o) (name-more n p.1))

name-whole : (n : List ℕ) → is_name n ≡ true → name_from false (map Plain n) ≡ Some n
unfolding is_name
name-whole [] e = absurd (both_ways false refl e)
name-whole (b ∷ n) e =
    let p = and_parts (begins_name b) (list_all is_in_name n) e in
    let first : begins_name b ≡ true = p.0 in
    rw first (ap (λ o. option_map (λ m. b ∷ m) o) (name-more n p.1))

pub name-told : (name : List ℕ) (atoms : List Atom) → (name_of atoms ≡ Some name) ↔ IsNameWord name atoms
unfolding name_of goes_all
name-told name atoms = (
  λ e. subst (NameFits false atoms) e (name-fits false atoms),
  λ h. ap (name_from false) h.1 ∙ name-whole name h.0,
)

abbrev AssignmentFits : Bool → List Atom → Option (List ℕ × List Atom) → Type 0
AssignmentFits begun atoms None = Unit {0}
AssignmentFits begun atoms (Some f) = (goes_all begun f.0 ≡ true) × (atoms ≡ map Plain f.0 ++ Plain 61 ∷ f.1)

longer-assignment : (begun : Bool) (b : ℕ) (atoms : List Atom) (o : Option (List ℕ × List Atom)) → goes_on begun b ≡ true →
    AssignmentFits true atoms o → AssignmentFits begun (Plain b ∷ atoms) (option_map (with_byte b) o)
unfolding goes_all
longer-assignment begun b atoms None e h = tt
longer-assignment begun b atoms (Some f) e h =
    (goes_cons begun b f.0 ∙ and_from (goes_on begun b) _ e h.0, ap (λ l. Plain b ∷ l) h.1)

value-fits : (begun : Bool) (b : ℕ) (atoms : List Atom) → AssignmentFits begun (Plain b ∷ atoms) (value_from begun b atoms)
unfolding goes_all
value-fits true b atoms =
    on_test (b == 61) (AssignmentFits true (Plain b ∷ atoms)) _ _ (λ e. (refl, ap (λ k. Plain k ∷ atoms) (eqb-true b 61 e))) (λ e. tt)
value-fits false b atoms = tt

assignment-fits : (begun : Bool) (atoms : List Atom) → AssignmentFits begun atoms (assignment_from begun atoms)
assignment-fits begun [] = tt
assignment-fits begun (Plain b ∷ atoms) =
    on_test (goes_on begun b) (AssignmentFits begun (Plain b ∷ atoms)) _ _
    (λ e. longer-assignment begun b atoms (assignment_from true atoms) e (assignment-fits true atoms)) (λ e. value-fits begun b atoms)
assignment-fits begun (Quoted b ∷ atoms) = tt
assignment-fits begun (Mark ∷ atoms) = tt
assignment-fits begun (Value n q ∷ atoms) = tt
assignment-fits begun (Status q ∷ atoms) = tt

equals-in : is_in_name 61 ≡ false
unfolding is_in_name begins_name
equals-in = refl

assignment-more : (n : List ℕ) (value : List Atom) → list_all is_in_name n ≡ true →
    assignment_from true (map Plain n ++ Plain 61 ∷ value) ≡ Some (n, value)
assignment-more [] value e = rw equals-in refl
assignment-more (b ∷ n) value e =
    let p = and_parts (is_in_name b) (list_all is_in_name n) e in
    let first : is_in_name b ≡ true = p.0 in
    rw first (ap (λ o. option_map (with_byte b) o) (assignment-more n value p.1))

assignment-whole : (n : List ℕ) (value : List Atom) → is_name n ≡ true →
    assignment_from false (map Plain n ++ Plain 61 ∷ value) ≡ Some (n, value)
unfolding is_name
assignment-whole [] value e = absurd (both_ways false refl e)
assignment-whole (b ∷ n) value e =
    let p = and_parts (begins_name b) (list_all is_in_name n) e in
    let first : begins_name b ≡ true = p.0 in
    rw first (ap (λ o. option_map (with_byte b) o) (assignment-more n value p.1))

pub assignment-told : (name : List ℕ) (value atoms : List Atom) →
    (assignment_of atoms ≡ Some (name, value)) ↔ IsAssignment name value atoms
unfolding assignment_of goes_all
assignment-told name value atoms = (
  λ e. subst (AssignmentFits false atoms) e (assignment-fits false atoms),
  λ h. ap (assignment_from false) h.1 ∙ assignment-whole name value h.0,
)
