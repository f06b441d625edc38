-- A word opens where nothing else begins, and is read or refused.
use Rattle.std.specs.Prelude.{◌≡◌, ℕ, ◌+◌, ◌<◌, ◌≤◌, ◌==◌, ◌&&◌, true, false, not, if◌then◌else◌, List, [], ◌∷◌, length, drop, Some, None}
use Rattle.std.specs.List.{flat_map}
use Rattle.std.specs.Option.{option_map}
use Rattle.std.proofs.Common.{refl, sym, ◌∙◌, ap, subst, arith, length-drop, inl, inr}
use Rattle.std.proofs.lemmas.Bool.{cases_Bool, ne_eqb, not_from_false, or_parts, both_ways}
use Rattle.hush_words.specs.Words.{Atom, Piece, Dollar, piece_atoms, is_blank, ends_word, is_bare, next}
use Rattle.hush_words.specs.Words.Piece.{Single, Double}
use Rattle.hush_words.specs.Tokens.{Token, Lexeme, lexeme_tokens, opens_word}
use Rattle.hush_words.specs.Tokens.Token.{Word}
use Rattle.hush_words.specs.Reading.{Found, found, front, behind, all, closed, as_piece, dollar_at, inner_at, escape_at, single_at, double_at, piece_at, word_of, joined_line, passed_at, lexeme_at, piece_atoms_left, piece_end}
use Rattle.hush_words.specs.Steps.{begins, StandsAt, lexeme_read}
use Rattle.hush_words.proofs.Fronts.{on_test}
use Rattle.hush_words.proofs.Many.{all-some, Shorter}
use Rattle.hush_words.proofs.Pieces.{piece-shortens}
use Rattle.hush_words.proofs.Lexemes.{passed-none, word-here, lexeme-shortens}
use Rattle.hush_words.proofs.PieceLemmas.{piece-none}

-- a word opens where nothing else begins
abbrev Opens : Found Piece → Type 0
Opens None = Unit {0}
Opens (Some f) = (ps : List Piece) → opens_word (f.0 ∷ ps) ≡ true

dollar_opens : (o : Found Dollar) → Opens (option_map as_piece o)
dollar_opens None = tt
dollar_opens (Some f) = λ ps. refl

escape_opens : (bs : List ℕ) → begins 10 bs ≡ false → Opens (escape_at bs)
unfolding escape_at
escape_opens [] e = tt
escape_opens (b ∷ bs) e = rw e (λ ps. refl)

closed_opens : (k : ℕ) (p : Piece) (bs : List ℕ) → ((ps : List Piece) → opens_word (p ∷ ps) ≡ true) → Opens (closed k p bs)
closed_opens k p [] h = tt
closed_opens k p (b ∷ bs) h = on_test (b == k) Opens (found p bs) None (λ e. h) (λ e. tt)

single_opens : (bs : List ℕ) → Opens (single_at bs)
unfolding single_at
single_opens bs = closed_opens 39 (Single (front (λ b. not (b == 39)) bs)) (behind (λ b. not (b == 39)) bs) (λ ps. refl)

double_opens : (bs : List ℕ) → Opens (double_at bs)
unfolding double_at
double_opens bs = closed_opens 34 (Double (all inner_at bs).0) (all inner_at bs).1 (λ ps. refl)

pub piece_opens : (b : ℕ) (bs : List ℕ) → (b ≡ 35 → ⊥) → begins 92 (b ∷ bs) && begins 10 bs ≡ false → Opens (piece_at (b ∷ bs))
unfolding piece_at
piece_opens b bs comment line =
    on_test (is_bare b) Opens _ _ (λ e ps. not_from_false (b == 35) (ne_eqb b 35 comment))
    (λ e. on_test (b == 36) Opens _ _ (λ d. dollar_opens (dollar_at bs))
    (λ d. on_test (b == 92) Opens _ _ (λ s. escape_opens bs (rw s at line))
    (λ s. on_test (b == 39) Opens _ _ (λ q. single_opens bs)
    (λ q. on_test (b == 34) Opens _ _ (λ w. double_opens bs) (λ w. tt)))))

not_blank : (b : ℕ) → ends_word b ≡ false → (is_blank b ≡ false) × ((b == 10) ≡ false) × ((b == 59) ≡ false) × ((b == 38) ≡ false) × ((b == 124) ≡ false)
unfolding ends_word
not_blank b e =
    let p = or_parts (is_blank b) _ e in
    let q = or_parts (b == 10) _ p.1 in
    let r = or_parts (b == 59) _ q.1 in
    let s = or_parts (b == 38) _ r.1 in
    let t = or_parts (b == 124) _ s.1 in
    (p.0, q.0, r.0, s.0, t.0)

no_joined : (bs : List ℕ) → begins 10 bs ≡ false → joined_line bs ≡ None
no_joined [] e = refl
no_joined (b ∷ bs) e = rw e refl

last_passed : (b : ℕ) (bs : List ℕ) → (b == 92) && begins 10 bs ≡ false → (if b == 92 then joined_line bs else None) ≡ None
last_passed b bs e =
    elim (cases_Bool (b == 92)) [
      | inl s ↦ rw s (no_joined bs (rw s at e))
      | inr s ↦ rw s refl
    ]

pub nothing_passed : (b : ℕ) (bs : List ℕ) → ends_word b ≡ false → (b ≡ 35 → ⊥) → begins 92 (b ∷ bs) && begins 10 bs ≡ false → passed_at (b ∷ bs) ≡ None
unfolding passed_at
nothing_passed b bs e comment line =
    let n = not_blank b e in
    let n0 : is_blank b ≡ false = n.0 in
    let n1 : (b == 10) ≡ false = n.1 in
    let n2 : (b == 59) ≡ false = n.2 in
    let n3 : (b == 38) ≡ false = n.3 in
    let n4 : (b == 124) ≡ false = n.4 in
    let n5 : (b == 35) ≡ false = ne_eqb b 35 comment in
    rw (n0, n1, n2, n3, n4, n5) (last_passed b bs line)

-- the word that is here, given that one opens
abbrev WordThere : List ℕ → Found Piece → Type 0
WordThere text None = lexeme_at text ≡ passed_at text
WordThere text (Some f) = lexeme_at text ≡ word_of (all piece_at text).0 (all piece_at text).1

word-there : (text : List ℕ) (o : Found Piece) → piece_at text ≡ o → Opens o → WordThere text o
word-there text None e h = passed-none text e
word-there text (Some f) e h =
    let q = all-some piece_at piece-shortens text f.0 f.1 e in
    word-here (all piece_at text).0 (all piece_at text).1 text refl (ap (λ w. opens_word w.0) q ∙ h (all piece_at f.1).0)

word_read : (text rest : List ℕ) → (all piece_at text).1 ≡ rest → next ends_word rest ≡ true →
    option_map lexeme_read (word_of (all piece_at text).0 (all piece_at text).1) ≡ Some (Word (flat_map piece_atoms (all piece_at text).0) ∷ [], rest)
word_read text rest e f = rw e (rw f refl)

word_unread : (ps : List Piece) (rest : List ℕ) → next ends_word rest ≡ false → word_of ps rest ≡ None
word_unread ps rest e = rw e refl

pub word-of : (text rest : List ℕ) (o : Found Piece) → piece_at text ≡ o → Opens o → piece_end text ≡ rest → next ends_word rest ≡ true →
    next ends_word text ≡ false → option_map lexeme_read (lexeme_at text) ≡ Some (Word (piece_atoms_left text) ∷ [], rest)
unfolding piece_atoms_left piece_end
word-of text rest None e h ends stop going =
    absurd (both_ways (next ends_word text) going (ap (next ends_word) (sym (piece-none text e).1 ∙ ends) ∙ stop))
word-of text rest (Some f) e h ends stop going =
    ap (λ o. option_map lexeme_read o) (word-there text (Some f) e h) ∙ word_read text rest ends stop

pub word-not : (text : List ℕ) (o : Found Piece) → piece_at text ≡ o → Opens o → passed_at text ≡ None → next ends_word (piece_end text) ≡ false →
    lexeme_at text ≡ None
unfolding piece_end
word-not text None e h passed going = word-there text None e h ∙ passed
word-not text (Some f) e h passed going = word-there text (Some f) e h ∙ word_unread (all piece_at text).0 (all piece_at text).1 going

-- what is found takes a byte at least
shorter-by : (bs : List ℕ) (ts : List Token) (rest : List ℕ) (o : Found Lexeme) → Shorter bs o → option_map lexeme_read o ≡ Some (ts, rest) → length rest < length bs
shorter-by bs ts rest None h e = absurd (cc)
shorter-by bs ts rest (Some f) h e =
    let w : ◌≡◌ {A = List Token × List ℕ} (lexeme_tokens f.0, f.1) (ts, rest) = cc in
    subst (λ l. length l < length bs) (ap (λ v. v.1) w) h

pub goes-on : (source : List ℕ) (at end : ℕ) (ts : List Token) → end ≤ length source →
    option_map lexeme_read (lexeme_at (drop at source)) ≡ Some (ts, drop end source) → at < end
goes-on source at end ts within e =
    let less = shorter-by (drop at source) ts (drop end source) (lexeme_at (drop at source)) (lexeme-shortens (drop at source)) e in
    omega (arith, less, length-drop at source, length-drop end source)

-- a word that is read, and one that isn't
pub word-token : (source : List ℕ) (at b : ℕ) → StandsAt source at b → ends_word b ≡ false → (b ≡ 35 → ⊥) →
    begins 92 (drop at source) && begins 10 (drop (at + 1) source) ≡ false → (end : ℕ) (atoms : List Atom) → end ≤ length source →
    atoms ≡ piece_atoms_left (drop at source) → piece_end (drop at source) ≡ drop end source → next ends_word (drop end source) ≡ true →
    (at < end) × (end ≤ length source) × (option_map lexeme_read (lexeme_at (drop at source)) ≡ Some (Word atoms ∷ [], drop end source))
word-token source at b here inside comment line end atoms within read ends stop =
    let bs : List ℕ = drop (at + 1) source in
    let opens = subst (λ l. Opens (piece_at l)) (sym here.1) (piece_opens b bs comment (subst (λ l. begins 92 l && begins 10 bs ≡ false) here.1 line)) in
    let going : next ends_word (drop at source) ≡ false = ap (next ends_word) here.1 ∙ inside in
    let whole = word-of (drop at source) (drop end source) (piece_at (drop at source)) refl opens ends stop going
    ∙ ap (λ l. Some (Word l ∷ [], drop end source)) (sym read) in
    (goes-on source at end (Word atoms ∷ []) within whole, within, whole)

pub no-word-token : (source : List ℕ) (at b : ℕ) → StandsAt source at b → ends_word b ≡ false → (b ≡ 35 → ⊥) →
    begins 92 (drop at source) && begins 10 (drop (at + 1) source) ≡ false → next ends_word (piece_end (drop at source)) ≡ false →
    lexeme_at (drop at source) ≡ None
no-word-token source at b here inside comment line going =
    let bs : List ℕ = drop (at + 1) source in
    let line' = subst (λ l. begins 92 l && begins 10 bs ≡ false) here.1 line in
    let opens = subst (λ l. Opens (piece_at l)) (sym here.1) (piece_opens b bs comment line') in
    let passed = subst (λ l. passed_at l ≡ None) (sym here.1) (nothing_passed b bs inside comment line') in
    word-not (drop at source) (piece_at (drop at source)) refl opens passed going
