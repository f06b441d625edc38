-- What the laws of hush_words on the forms of a word say of the words of a script.
use Rattle.std.proofs.Common.{◌≡◌, ℕ, ◌==◌, ◌&&◌, bytes_eq, Bool, true, false, not, List, [], ◌∷◌, ◌++◌, map, codes, refl, ap, subst, Option, Some, None}
use Rattle.std.proofs.lemmas.Bool.{and_parts, not-true}
use Rattle.std.specs.List.{list_all, find}
use Rattle.hush_words.specs.Words.{Atom, is_name}
use Rattle.hush_words.specs.Words.Atom.{Plain}
use Rattle.hush_words.specs.Forms.{is_plain, name_of, assignment_of}
use Rattle.hush_words.specs.Laws.{PlainIsTold, NameIsTold, AssignmentIsTold}
use Rattle.hush_words.specs.Tokens.{Token}
use Rattle.hush_words.specs.Tokens.Token.{Word, Newline, Semicolon, AndIf, OrIf}
use Rattle.hush_syntax.specs.declared.keywords.Keyword.{Keyword}
use Rattle.hush_syntax.specs.Keywords.{keyword_of, keywords, spelling}
use Rattle.hush_syntax.specs.Grammar.{begins}
use Rattle.hush_syntax.specs.Reading.{behind, is, keyword_at}
use Rattle.hush_syntax.proofs.Fronts.{by_test}

-- a word of plain bytes alone is a text if its bytes are
pub bytes_plain : (text bytes : List ℕ) → bytes_eq bytes text ≡ is_plain text (map Plain bytes)
unfolding is_plain
bytes_plain [] [] = refl
bytes_plain [] (b ∷ bytes) = refl
bytes_plain (t ∷ text) [] = refl
bytes_plain (t ∷ text) (b ∷ bytes) = ap (λ r. b == t && r) (bytes_plain text bytes)

-- a word's forms are reported exactly
pub record FormsAreTold : Type 0 where
  pub plain : PlainIsTold
  pub name : NameIsTold
  pub assignment : AssignmentIsTold

differs : (text name : List ℕ) (value : List Atom) → list_all (λ b. not (b == 61)) text ≡ true → map Plain name ++ Plain 61 ∷ value ≡ map Plain text → ⊥
differs [] [] value none e = absurd (let no : ◌≡◌ {A = List Atom} (Plain 61 ∷ value) [] = e in cc)
differs [] (n ∷ name) value none e = absurd (let no : ◌≡◌ {A = List Atom} (Plain n ∷ (map Plain name ++ Plain 61 ∷ value)) [] = e in cc)
differs (b ∷ text) [] value none e =
    let heads : ◌≡◌ {A = List Atom} (Plain 61 ∷ value) (Plain b ∷ map Plain text) = e in
    let same : ◌≡◌ {A = ℕ} b 61 = cc in
    let other : (b == 61) ≡ false = not-true (b == 61) (and_parts (not (b == 61)) (list_all (λ b. not (b == 61)) text) none).0 in
    let no : true ≡ false = subst (λ x. (x == 61) ≡ false) same other in cc
differs (b ∷ text) (n ∷ name) value none e =
    let lists : ◌≡◌ {A = List Atom} (Plain n ∷ (map Plain name ++ Plain 61 ∷ value)) (Plain b ∷ map Plain text) = e in
    let tails : map Plain name ++ Plain 61 ∷ value ≡ map Plain text = cc in
    differs text name value (and_parts (not (b == 61)) (list_all (λ b. not (b == 61)) text) none).1 tails

find-true : {X : Type 0} (test : X → Bool) (xs : List X) (x : X) → find test xs ≡ Some x → test x ≡ true
find-true {X} test [] x e = absurd (let no : ◌≡◌ {A = Option X} None (Some x) = e in cc)
find-true {X} test (y ∷ xs) x e =
    by_test (test y)
    (λ h. let f : ◌≡◌ {A = Option X} (Some y) (Some x) = rw h at e in let same : y ≡ x = cc in subst (λ z. test z ≡ true) same h)
    (λ h. find-true test xs x (rw h at e))

module _ (told : FormsAreTold) where
  -- words of plain bytes
  pub is_plain-true : (text : List ℕ) (w : List Atom) → is_plain text w ≡ true → w ≡ map Plain text
  is_plain-true text w e = (told.plain text w).0 e

  pub is_plain-plain : (text : List ℕ) → is_plain text (map Plain text) ≡ true
  is_plain-plain text = (told.plain text (map Plain text)).1 refl

  -- an assignment's word is no reserved word
  no_equals : (text name : List ℕ) (value : List Atom) → list_all (λ b. not (b == 61)) text ≡ true → is_plain text (map Plain name ++ Plain 61 ∷ value) ≡ false
  no_equals text name value none =
      by_test (is_plain text (map Plain name ++ Plain 61 ∷ value))
      (λ e. absurd (differs text name value none (is_plain-true text (map Plain name ++ Plain 61 ∷ value) e)))
      (λ e. e)

  pub keyword_of-assignment : (name : List ℕ) (value : List Atom) → keyword_of (map Plain name ++ Plain 61 ∷ value) ≡ None
  unfolding keyword_of
  keyword_of-assignment name value =
      rw (no_equals (codes "if") name value refl, no_equals (codes "then") name value refl, no_equals (codes "elif") name value refl, no_equals (codes "else") name value refl, no_equals (codes "fi") name value refl, no_equals (codes "for") name value refl, no_equals (codes "while") name value refl, no_equals (codes "until") name value refl, no_equals (codes "do") name value refl, no_equals (codes "done") name value refl)

  -- a reserved word is written in its bytes
  pub keyword_of-some : (w : List Atom) (k : Keyword) → keyword_of w ≡ Some k → w ≡ map Plain (spelling k)
  unfolding keyword_of
  keyword_of-some w k e = is_plain-true (spelling k) w (find-true (λ keyword. is_plain (spelling keyword) w) keywords k e)

  pub keyword_at-some : (ts : List Token) (k : Keyword) → keyword_at ts ≡ Some k → ts ≡ Word (map Plain (spelling k)) ∷ behind ts
  keyword_at-some [] k e = absurd (let no : ◌≡◌ {A = Option Keyword} None (Some k) = e in cc)
  keyword_at-some (Word w ∷ ts) k e = ap (λ x. Word x ∷ ts) (keyword_of-some w k e)
  keyword_at-some (Newline ∷ ts) k e = absurd (let no : ◌≡◌ {A = Option Keyword} None (Some k) = e in cc)
  keyword_at-some (Semicolon ∷ ts) k e = absurd (let no : ◌≡◌ {A = Option Keyword} None (Some k) = e in cc)
  keyword_at-some (AndIf ∷ ts) k e = absurd (let no : ◌≡◌ {A = Option Keyword} None (Some k) = e in cc)
  keyword_at-some (OrIf ∷ ts) k e = absurd (let no : ◌≡◌ {A = Option Keyword} None (Some k) = e in cc)

  pub begins_is : (text : List ℕ) (ts : List Token) → begins (is text) ts ≡ true → ts ≡ Word (map Plain text) ∷ behind ts
  begins_is text [] e = absurd (let no : false ≡ true = e in cc)
  begins_is text (Word w ∷ ts) e = ap (λ x. Word x ∷ ts) (is_plain-true text w e)
  begins_is text (Newline ∷ ts) e = absurd (let no : false ≡ true = e in cc)
  begins_is text (Semicolon ∷ ts) e = absurd (let no : false ≡ true = e in cc)
  begins_is text (AndIf ∷ ts) e = absurd (let no : false ≡ true = e in cc)
  begins_is text (OrIf ∷ ts) e = absurd (let no : false ≡ true = e in cc)

  -- assignments and names
  pub assignment_of-spelled : (n : List ℕ) (value : List Atom) → is_name n ≡ true → assignment_of (map Plain n ++ Plain 61 ∷ value) ≡ Some (n, value)
  assignment_of-spelled n value e = (told.assignment n value (map Plain n ++ Plain 61 ∷ value)).1 (e, refl)

  pub assignment_of-some : (w : List Atom) (n : List ℕ) (value : List Atom) → assignment_of w ≡ Some (n, value) → (is_name n ≡ true) × (w ≡ map Plain n ++ Plain 61 ∷ value)
  assignment_of-some w n value e = (told.assignment n value w).0 e

  pub name_of-spelled : (n : List ℕ) → is_name n ≡ true → name_of (map Plain n) ≡ Some n
  name_of-spelled n e = (told.name n (map Plain n)).1 (e, refl)

  pub name_of-some : (w : List Atom) (n : List ℕ) → name_of w ≡ Some n → (is_name n ≡ true) × (w ≡ map Plain n)
  name_of-some w n e = (told.name n w).0 e
