-- What the cursor leaves of the words of a script's commands, whatever it passes.
use Rattle.std.specs.Prelude.{IfSome, option_map, unwrap_or, ◌≡◌, ℕ, ◌==◌, true, false, List, [], ◌∷◌, ◌++◌, map, length, drop, Option, Some, None, Result, Ok, Err}
use Rattle.std.specs.List.{list_all}
use Rattle.std.proofs.Common.{refl, sym, ◌∙◌, ap, subst, append_assoc}
use Rattle.std.proofs.lemmas.Bool.{and_parts, eqb-true}
use Rattle.std.proofs.lemmas.List.{length-map, map-append}
use Rattle.hush_words.specs.Words.{Atom}
use Rattle.hush_words.specs.Words.Atom.{Plain, Quoted, Mark, Value, Status}
use Rattle.hush_words.specs.Forms.{is_plain, name_of, assignment_of, split_of}
use Rattle.hush_words.specs.Tokens.{Token}
use Rattle.hush_words.specs.Tokens.Token.{Word, Newline, Semicolon, AndIf, OrIf}
use Rattle.hush_words.specs.Parts.{Written, word_atoms}
use Rattle.hush_words.specs.Faults.{Placed, placed_left}
use Rattle.hush_words.specs.Views.{BeginsAt, assignment_view, kind_token, value_place}
use Rattle.hush_words.specs.declared.forms.Assignment.{Assignment}
use Rattle.hush_words.specs.declared.tokens.TokenKind.{TokenKind}
use Rattle.hush_words.specs.declared.tokens.TokenKind.TheVariants as kind
use Rattle.hush_words.proofs.Told.{name-told}
use Rattle.hush_words.specs.declared.parts.Word as range
use Rattle.hush_words.specs.declared.tokens.Token as code
use Rattle.hush_syntax.specs.declared.cursor.Tokens.{Tokens}
use Rattle.hush_syntax.specs.declared.keywords.Keyword.{Keyword}
use Rattle.hush_syntax.specs.declared.nodes.Operator.{Operator}
use Rattle.hush_syntax.specs.declared.syntax_fault.SyntaxFault.{SyntaxFault}
use Rattle.hush_syntax.specs.Answers.{EndsBehind, EndsRight, IsAt, PlacesWord, assigned_of, kind_of, left_in, placed_behind, placed_in, words_left}
use Rattle.hush_syntax.specs.CommandWords.{Spot, Beginning, Within, Naming, Listing, spot_behind, begun_words, word_placed, words_from}
use Rattle.hush_syntax.specs.Grammar.{begins, is_newline, is_separator}
use Rattle.hush_syntax.specs.Keywords.{keyword_of, spelling}
use Rattle.hush_syntax.specs.Reading.{behind, is, keyword_at, one, operator_at, separators, skip}
use Rattle.hush_syntax.specs.Trees.{name_in}
use Rattle.hush_syntax.proofs.Fronts.{by_test, keyword_of-spelling, skip-splits, skip-stops}
use Rattle.hush_syntax.proofs.Places.{keyword-word}
use Rattle.hush_syntax.proofs.Readers.{same_pair}
use Rattle.hush_syntax.proofs.WordScans.{unplaced, left-told, gone, over-separators, over-newlines, over-some, over-operator, over-reserved, over-listing, over-naming, over-within, over-first, nothing-left}

-- behind a command of a chain: an operator was taken, or none
abbrev pub spot_after : Option Operator → Spot
spot_after None = Within
spot_after (Some o) = Beginning

module _ (text : Written) (old new : Tokens) (at : IsAt text old) (now : IsAt text new) where
  pub skips-separators : left_in text new ≡ skip is_separator (left_in text old) → words_left text Beginning new ≡ words_left text Beginning old
  skips-separators e =
      let s = skip-splits is_separator (left_in text old) in
      let g = gone text old new s.0 at now (s.1 ∙ ap (λ l. s.0 ++ l) (sym e)) in
      sym (ap (words_from text Beginning) g.1 ∙ over-separators text g.0 (placed_in text new) (ap (list_all is_separator) g.2 ∙ s.2))

  pub skips-newlines : left_in text new ≡ skip is_newline (left_in text old) → words_left text Beginning new ≡ words_left text Beginning old
  skips-newlines e =
      let s = skip-splits is_newline (left_in text old) in
      let g = gone text old new s.0 at now (s.1 ∙ ap (λ l. s.0 ++ l) (sym e)) in
      sym (ap (words_from text Beginning) g.1 ∙ over-newlines text g.0 (placed_in text new) (ap (list_all is_newline) g.2 ∙ s.2))

  begun : (a r : List Token) → begins is_separator (a ++ r) ≡ true → begins is_separator r ≡ false → begins is_separator a ≡ true
  begun [] r e stops = absurd (let no : true ≡ false = sym e ∙ stops in cc)
  begun (t ∷ a) r e stops = e

  pub skips-some : begins is_separator (left_in text old) ≡ true → left_in text new ≡ skip is_separator (left_in text old) →
      words_left text Beginning new ≡ words_left text Within old
  skips-some some e =
      let s = skip-splits is_separator (left_in text old) in
      let g = gone text old new s.0 at now (s.1 ∙ ap (λ l. s.0 ++ l) (sym e)) in
      let first = begun s.0 (skip is_separator (left_in text old)) (ap (begins is_separator) (sym s.1) ∙ some) (skip-stops is_separator (left_in text old)) in
      sym (ap (words_from text Within) g.1 ∙ over-some text g.0 (placed_in text new) (ap (list_all is_separator) g.2 ∙ s.2) (ap (begins is_separator) g.2 ∙ first))

  pub passes-separators : (u : Unit {0}) → separators (left_in text old) ≡ Some (u, left_in text new) → words_left text Beginning new ≡ words_left text Within old
  passes-separators u e =
      by_test (begins is_separator (left_in text old))
      (λ h.
      let taken : ◌≡◌ {A = Option (Unit {0} × List Token)} (Some (tt, skip is_separator (left_in text old))) (Some (u, left_in text new)) = rw h at e in
      skips-some h (sym (same_pair tt u (skip is_separator (left_in text old)) (left_in text new) taken).1))
      (λ h. absurd (let no : ◌≡◌ {A = Option (Unit {0} × List Token)} None (Some (u, left_in text new)) = rw h at e in cc))

  operator-first : (ts : List Token) (o : Operator) → operator_at ts ≡ Some o → (t : Token) × (ts ≡ t ∷ behind ts)
  operator-first [] o e = absurd (let no : ◌≡◌ {A = Option Operator} None (Some o) = e in cc)
  operator-first (t ∷ ts) o e = (t, refl)

  pub passes-operator : (o : Operator) → operator_at (left_in text old) ≡ Some o → left_in text new ≡ behind (left_in text old) →
      words_left text Beginning new ≡ words_left text Within old
  passes-operator o e rest =
      let f = operator-first (left_in text old) o e in
      let whole : left_in text old ≡ (f.0 ∷ []) ++ left_in text new = f.1 ∙ ap (λ l. f.0 ∷ l) (sym rest) in
      let g = gone text old new (f.0 ∷ []) at now whole in
      let there : operator_at (unplaced g.0 ++ left_in text new) ≡ Some o = ap (λ l. operator_at (l ++ left_in text new)) g.2 ∙ ap operator_at (sym whole) ∙ e in
      sym (ap (words_from text Within) g.1
      ∙ over-operator text o g.0 (placed_in text new) (left_in text new) there (sym (length-map g.0 (λ (p : Placed). p.1)) ∙ ap length g.2))

  none-gone : (passed ps : List Placed) → unplaced passed ≡ [] → passed ++ ps ≡ ps
  none-gone [] ps e = refl
  none-gone (p ∷ passed) ps e = absurd (let no : ◌≡◌ {A = List Token} (p.1 ∷ unplaced passed) [] = e in cc)

  pub passes-nothing : (spot : Spot) → left_in text new ≡ left_in text old → words_left text spot new ≡ words_left text spot old
  passes-nothing spot e =
      let g = gone text old new [] at now (sym e) in
      sym (ap (words_from text spot) (g.1 ∙ none-gone g.0 (placed_in text new) g.2))

  one-word : (passed : List Placed) (w : List Atom) → unplaced passed ≡ Word w ∷ [] → (place : ℕ) × (passed ≡ (place, Word w) ∷ [])
  one-word [] w e = absurd (let no : ◌≡◌ {A = List Token} [] (Word w ∷ []) = e in cc)
  one-word (p ∷ []) w e =
      let heads : ◌≡◌ {A = List Token} (p.1 ∷ []) (Word w ∷ []) = e in
      let head : p.1 ≡ Word w = cc in
      (p.0, ap (λ t. (p.0, t) ∷ []) head)
  one-word (p ∷ q ∷ passed) w e = absurd (let no : ◌≡◌ {A = List Token} (p.1 ∷ q.1 ∷ unplaced passed) (Word w ∷ []) = e in cc)

  pub passes-word : (w : List Atom) → left_in text old ≡ Word w ∷ left_in text new → (place : ℕ) × (placed_in text old ≡ (place, Word w) ∷ placed_in text new)
  passes-word w e =
      let g = gone text old new (Word w ∷ []) at now e in
      let p = one-word g.0 w g.2 in
      (p.0, g.1 ∙ ap (λ l. l ++ placed_in text new) p.1)

  -- a reserved word
  pub passes-keyword : (k : Keyword) → keyword_at (left_in text old) ≡ Some k → left_in text new ≡ behind (left_in text old) →
      words_left text (spot_behind k) new ≡ words_left text Beginning old
  passes-keyword k e rest =
      let w = keyword-word (left_in text old) k e in
      let p = passes-word w.0 (w.2 ∙ ap (λ l. Word w.0 ∷ l) (ap behind (sym w.2) ∙ sym rest)) in
      sym (ap (words_from text Beginning) p.1 ∙ over-reserved text k p.0 w.0 (placed_in text new) w.3)

  word-first : (bytes : List ℕ) (ts r : List Token) (u : Unit {0}) → one (is bytes) ts ≡ Some (u, r) → (w : List Atom) × (ts ≡ Word w ∷ r) × (is_plain bytes w ≡ true)
  word-first bytes [] r u e = absurd (let no : ◌≡◌ {A = Option (Unit {0} × List Token)} None (Some (u, r)) = e in cc)
  word-first bytes (Word w ∷ ts) r u e =
      by_test (is_plain bytes w)
      (λ h.
      let taken : ◌≡◌ {A = Option (Unit {0} × List Token)} (Some (tt, ts)) (Some (u, r)) = rw h at e in
      (w, ap (λ l. Word w ∷ l) (same_pair tt u ts r taken).1, h))
      (λ h. absurd (let no : ◌≡◌ {A = Option (Unit {0} × List Token)} None (Some (u, r)) = rw h at e in cc))
  word-first bytes (Newline ∷ ts) r u e = absurd (let no : ◌≡◌ {A = Option (Unit {0} × List Token)} None (Some (u, r)) = e in cc)
  word-first bytes (Semicolon ∷ ts) r u e = absurd (let no : ◌≡◌ {A = Option (Unit {0} × List Token)} None (Some (u, r)) = e in cc)
  word-first bytes (AndIf ∷ ts) r u e = absurd (let no : ◌≡◌ {A = Option (Unit {0} × List Token)} None (Some (u, r)) = e in cc)
  word-first bytes (OrIf ∷ ts) r u e = absurd (let no : ◌≡◌ {A = Option (Unit {0} × List Token)} None (Some (u, r)) = e in cc)

  plain-is : (bytes : List ℕ) (w : List Atom) → is_plain bytes w ≡ true → w ≡ map Plain bytes
  unfolding is_plain
  plain-is [] [] e = refl
  plain-is [] (a ∷ w) e = absurd (let no : false ≡ true = e in cc)
  plain-is (b ∷ bytes) [] e = absurd (let no : false ≡ true = e in cc)
  plain-is (b ∷ bytes) (Plain c ∷ w) e =
      let s = and_parts (c == b) (is_plain bytes w) e in
      let same : c ≡ b = eqb-true c b s.0 in
      rw (same, plain-is bytes w s.1) refl
  plain-is (b ∷ bytes) (Quoted c ∷ w) e = absurd (let no : false ≡ true = e in cc)
  plain-is (b ∷ bytes) (Mark ∷ w) e = absurd (let no : false ≡ true = e in cc)
  plain-is (b ∷ bytes) (Value n q ∷ w) e = absurd (let no : false ≡ true = e in cc)
  plain-is (b ∷ bytes) (Status q ∷ w) e = absurd (let no : false ≡ true = e in cc)

  pub passes-reserved : (k : Keyword) (u : Unit {0}) → one (is (spelling k)) (left_in text old) ≡ Some (u, left_in text new) →
      words_left text (spot_behind k) new ≡ words_left text Beginning old
  passes-reserved k u e =
      let w = word-first (spelling k) (left_in text old) (left_in text new) u e in
      let p = passes-word w.0 w.1 in
      let there : keyword_of w.0 ≡ Some k = ap keyword_of (plain-is (spelling k) w.0 w.2) ∙ keyword_of-spelling k in
      sym (ap (words_from text Beginning) p.1 ∙ over-reserved text k p.0 w.0 (placed_in text new) there)

  -- the `in` of a `for`
  pub passes-in : (bytes : List ℕ) (u : Unit {0}) → one (is bytes) (left_in text old) ≡ Some (u, left_in text new) → words_left text Within new ≡ words_left text Listing old
  passes-in bytes u e =
      let w = word-first bytes (left_in text old) (left_in text new) u e in
      let p = passes-word w.0 w.1 in
      sym (ap (words_from text Listing) p.1 ∙ over-listing text p.0 w.0 (placed_in text new))

-- the name of a `for`, and a word of a command
pub takes-name : (text : Written) (old new : Tokens) (w : range.Word) → PlacesWord text (placed_in text old) (placed_in text new) w →
    words_left text Naming old ≡ word_placed text w ∷ words_left text Listing new
takes-name text old new w e = ap (words_from text Naming) e ∙ over-naming text w.start (word_atoms text w) (placed_in text new)

pub takes-word : (text : Written) (old new : Tokens) (w : range.Word) → PlacesWord text (placed_in text old) (placed_in text new) w →
    words_left text Within old ≡ word_placed text w ∷ words_left text Within new
takes-word text old new w e = ap (words_from text Within) e ∙ over-within text w.start (word_atoms text w) (placed_in text new)

-- one more of them
pub pushed : {X Y : Type 0} (f : X → Y) (ws more : List X) (w : X) (rest : List Y) → more ≡ ws ++ w ∷ [] → map f more ++ rest ≡ map f ws ++ f w ∷ rest
pushed f ws more w rest e = ap (λ l. map f l ++ rest) e ∙ ap (λ l. l ++ rest) (map-append f ws (w ∷ [])) ∙ append_assoc (map f ws) (f w ∷ []) rest

-- the first word of a command: of a simple one, or an assignment
pub begins-command : (text : Written) (c : Tokens) (rest : List Placed) (w : range.Word) → PlacesWord text (placed_in text c) rest w →
    keyword_of (word_atoms text w) ≡ None →
    words_left text Beginning c ≡ begun_words text w.start (word_atoms text w) (assignment_of (word_atoms text w)) ++ words_from text Within rest
begins-command text c rest w e none = ap (words_from text Beginning) e ∙ over-first text w.start (word_atoms text w) rest none

pub begins-simple : (text : Written) (c : Tokens) (rest : List Placed) (w : range.Word) → PlacesWord text (placed_in text c) rest w →
    keyword_of (word_atoms text w) ≡ None → assignment_of (word_atoms text w) ≡ None → words_left text Beginning c ≡ words_left text Within c
begins-simple text c rest w e none other =
    begins-command text c rest w e none ∙ ap (λ o. begun_words text w.start (word_atoms text w) o ++ words_from text Within rest) other
    ∙ sym (ap (words_from text Within) e ∙ over-within text w.start (word_atoms text w) rest)

-- nothing is left
no-places : (ps : List Placed) → unplaced ps ≡ [] → ps ≡ []
no-places [] e = refl
no-places (p ∷ ps) e = absurd (let no : ◌≡◌ {A = List Token} (p.1 ∷ unplaced ps) [] = e in cc)

pub ends-words : (text : Written) (spot : Spot) (c : Tokens) → left_in text c ≡ [] → words_left text spot c ≡ []
ends-words text spot c e =
    ap (words_from text spot) (no-places (placed_in text c) (left-told text c ∙ e)) ∙ nothing-left text spot

-- the word that comes next
word-behind : (text : Written) (o : Result code.Token SyntaxFault) (b : ℕ) (w : range.Word) → kind_of o ≡ Some (kind.Word w) → EndsBehind text o b →
    PlacesWord text (placed_behind text o b) (drop 1 (placed_behind text o b)) w
word-behind text (Err f) b w e ends = absurd (let no : ◌≡◌ {A = Option TokenKind} None (Some (kind.Word w)) = e in cc)
word-behind text (Ok t) b w e ends =
    let same : t.kind ≡ kind.Word w = cc in
    let begins : w.start ≡ t.place = subst (BeginsAt t.place) same ends.1 in
    ap (λ k. (t.place, kind_token text k) ∷ placed_left b (drop b text.source)) same
    ∙ ap (λ n. (n, Word (word_atoms text w)) ∷ placed_left b (drop b text.source)) (sym begins)

pub word-there : (text : Written) (c : Tokens) (w : range.Word) → kind_of c.next ≡ Some (kind.Word w) → IsAt text c →
    PlacesWord text (placed_in text c) (drop 1 (placed_in text c)) w
unfolding IsAt EndsRight placed_in
word-there text c w e at = word-behind text c.next c.behind w e at.2

-- the sides of an assignment
pub sides-placed : (text : Written) (word : range.Word) (a : Assignment) (n : List ℕ) → name_of (word_atoms text a.name) ≡ Some n →
    (a.name.start ≡ word.start) × (a.value.start ≡ value_place text word.start) →
    map (word_placed text) (a.name ∷ a.value ∷ []) ≡ begun_words text word.start (word_atoms text word) (Some (assigned_of text a))
sides-placed text word a n named places =
    let name : name_in text a.name ≡ n = ap (λ o. unwrap_or o []) named in
    let plain : word_atoms text a.name ≡ map Plain (name_in text a.name) = ((name-told n (word_atoms text a.name)).0 named).1 ∙ ap (map Plain) (sym name) in
    ap (λ p. (p, word_atoms text a.name) ∷ (a.value.start, word_atoms text a.value) ∷ []) places.0
    ∙ ap (λ w. (word.start, w) ∷ (a.value.start, word_atoms text a.value) ∷ []) plain
    ∙ ap (λ p. (word.start, map Plain (name_in text a.name)) ∷ (p, word_atoms text a.value) ∷ []) places.1

named : (text : Written) (word : range.Word) (a : Assignment) (f : Option (List ℕ × List Atom)) → ◌≡◌ {A = Option (Option (List ℕ) × List Atom)} (Some (assignment_view text a)) (option_map (λ f. (Some f.0, f.1)) f) →
    (a.name.start ≡ word.start) × (a.value.start ≡ value_place text word.start) →
    map (word_placed text) (a.name ∷ a.value ∷ []) ≡ begun_words text word.start (word_atoms text word) (Some (assigned_of text a))
named text word a None told places = absurd (let no : ◌≡◌ {A = Option (Option (List ℕ) × List Atom)} (Some (assignment_view text a)) None = told in cc)
named text word a (Some f) told places =
    let same : ◌≡◌ {A = Option (List ℕ) × List Atom} (assignment_view text a) (Some f.0, f.1) = cc in
    sides-placed text word a f.0 (ap (λ v. v.0) same) places

-- the same of what a word is found to be
pub assignment-placed : (text : Written) (word : range.Word) (o : Option Assignment) → option_map (assignment_view text) o ≡ split_of (word_atoms text word) →
    IfSome o (λ a. (a.name.start ≡ word.start) × (a.value.start ≡ value_place text word.start)) →
    IfSome o (λ a. map (word_placed text) (a.name ∷ a.value ∷ []) ≡ begun_words text word.start (word_atoms text word) (Some (assigned_of text a)))
assignment-placed text word None told places = tt
assignment-placed text word (Some a) told places = named text word a (assignment_of (word_atoms text word)) told places
