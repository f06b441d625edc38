-- What is left to read of a text, by what is at a place.
use Rattle.std.specs.Prelude.{◌≡◌, ℕ, zero, suc, ◌+◌, ◌<◌, ◌==◌, ◌&&◌, ◌||◌, Bool, true, false, not, List, [], ◌∷◌, ◌++◌, length, drop, Some, None, ◌⊎◌}
use Rattle.std.specs.List.{flat_map, list_all}
use Rattle.std.specs.Option.{option_map}
use Rattle.std.proofs.Common.{refl, sym, ◌∙◌, ap, subst, arith, get_or, inl, inr}
use Rattle.std.proofs.lemmas.Bool.{ne_eqb, eqb-true, eq-eqb, both_ways, or_cases, or_parts, not_from_true, and_parts, and_left, and_right}
use Rattle.std.proofs.lemmas.List.{take_all}
use Rattle.memchr.specs.Find.{IsFirstByte, is_byte}
use Rattle.hush_words.proofs.Runs.{found-none}
use Rattle.hush_words.specs.Words.{is_blank, ends_word}
use Rattle.hush_words.specs.Tokens.{Token, Lexeme, lexeme_tokens, has_no_nul}
use Rattle.hush_words.specs.Tokens.Lexeme.{And, Or}
use Rattle.hush_words.specs.Reading.{Found, found, front, all, closed, passed_at, lexeme_at, tokens_if_whole, tokens_of, tokens_left, lexeme_end}
use Rattle.hush_words.specs.Steps.{begins, StandsAt, IsRun, lexeme_read}
use Rattle.hush_words.proofs.Fronts.{front-all}
use Rattle.hush_words.proofs.Many.{all-some, all-none}
use Rattle.hush_words.proofs.Lexemes.{lexeme-newline, lexeme-semicolon, lexeme-and, lexeme-or, lexeme-blank, lexeme-joined, lexeme-comment, lexeme-shortens}
use Rattle.hush_words.proofs.DollarLemmas.{begins-here}
use Rattle.hush_words.proofs.QuoteLemmas.{closed-here, closed-not}

pub lexeme-one : (bs : List ℕ) (l : Lexeme) (r : List ℕ) → lexeme_at bs ≡ found l r →
    (tokens_left bs ≡ lexeme_tokens l ++ tokens_left r) × (lexeme_end bs ≡ lexeme_end r)
unfolding tokens_left lexeme_end
lexeme-one bs l r e =
    let q = all-some lexeme_at lexeme-shortens bs l r e in
    (ap (λ w. flat_map lexeme_tokens w.0) q, ap (λ w. w.1) q)

pub lexeme-none : (bs : List ℕ) → lexeme_at bs ≡ None → (tokens_left bs ≡ []) × (lexeme_end bs ≡ bs)
unfolding tokens_left lexeme_end
lexeme-none bs e =
    let q = all-none lexeme_at bs e in
    (ap (λ w. flat_map lexeme_tokens w.0) q, ap (λ w. w.1) q)

lexeme-found : (bs : List ℕ) (ts : List Token) (rest : List ℕ) (o : Found Lexeme) → lexeme_at bs ≡ o →
    option_map lexeme_read o ≡ Some (ts, rest) → (tokens_left bs ≡ ts ++ tokens_left rest) × (lexeme_end bs ≡ lexeme_end rest)
lexeme-found bs ts rest None e h = absurd (cc)
lexeme-found bs ts rest (Some f) e h =
    let w : ◌≡◌ {A = List Token × List ℕ} (lexeme_tokens f.0, f.1) (ts, rest) = cc in
    let one = lexeme-one bs f.0 f.1 e in
    (one.0 ∙ ap (λ v. v.0 ++ tokens_left v.1) w, one.1 ∙ ap (λ v. lexeme_end v.1) w)

pub read-lexeme : (bs : List ℕ) (ts : List Token) (rest : List ℕ) → option_map lexeme_read (lexeme_at bs) ≡ Some (ts, rest) →
    (tokens_left bs ≡ ts ++ tokens_left rest) × (lexeme_end bs ≡ lexeme_end rest)
read-lexeme bs ts rest h = lexeme-found bs ts rest (lexeme_at bs) refl h

-- the lexemes of one byte and of two, as the code reads them
there : (source : List ℕ) (at b k : ℕ) → StandsAt source at b → b ≡ k → drop at source ≡ k ∷ drop (at + 1) source
there source at b k here e = here.1 ∙ ap (λ n. n ∷ drop (at + 1) source) e

pub blank-there : (source : List ℕ) (at b : ℕ) → StandsAt source at b → is_blank b ≡ true →
    option_map lexeme_read (lexeme_at (drop at source)) ≡ Some ([], drop (at + 1) source)
blank-there source at b here e = ap (λ l. option_map lexeme_read (lexeme_at l)) here.1 ∙ ap (λ o. option_map lexeme_read o) (lexeme-blank b (drop (at + 1) source) e)

pub newline-there : (source : List ℕ) (at b : ℕ) → StandsAt source at b → b ≡ 10 →
    option_map lexeme_read (lexeme_at (drop at source)) ≡ Some (Token.Newline ∷ [], drop (at + 1) source)
newline-there source at b here e =
    ap (λ l. option_map lexeme_read (lexeme_at l)) (there source at b 10 here e) ∙ ap (λ o. option_map lexeme_read o) (lexeme-newline (drop (at + 1) source))

pub semicolon-there : (source : List ℕ) (at b : ℕ) → StandsAt source at b → b ≡ 59 →
    option_map lexeme_read (lexeme_at (drop at source)) ≡ Some (Token.Semicolon ∷ [], drop (at + 1) source)
semicolon-there source at b here e =
    ap (λ l. option_map lexeme_read (lexeme_at l)) (there source at b 59 here e) ∙ ap (λ o. option_map lexeme_read o) (lexeme-semicolon (drop (at + 1) source))

and-twice : (source : List ℕ) (at : ℕ) → begins 38 (drop (at + 1) source) ≡ true → closed 38 And (drop (at + 1) source) ≡ found And (drop (at + 2) source)
and-twice source at e =
    let two : at + 1 + 1 ≡ at + 2 = omega arith in
    closed-here 38 And source (at + 1) e ∙ ap (λ n. found And (drop n source)) two

and-there : (source : List ℕ) (at : ℕ) → StandsAt source at 38 → begins 38 (drop (at + 1) source) ≡ true →
    option_map lexeme_read (lexeme_at (drop at source)) ≡ Some (Token.AndIf ∷ [], drop (at + 2) source)
and-there source at here e =
    ap (λ l. option_map lexeme_read (lexeme_at l)) here.1
    ∙ ap (λ o. option_map lexeme_read o) (lexeme-and (drop (at + 1) source) ∙ and-twice source at e)

and-single : (source : List ℕ) (at : ℕ) → StandsAt source at 38 → begins 38 (drop (at + 1) source) ≡ false → lexeme_at (drop at source) ≡ None
and-single source at here e = ap lexeme_at here.1 ∙ lexeme-and (drop (at + 1) source) ∙ closed-not 38 And (drop (at + 1) source) e

or-twice : (source : List ℕ) (at : ℕ) → begins 124 (drop (at + 1) source) ≡ true → closed 124 Or (drop (at + 1) source) ≡ found Or (drop (at + 2) source)
or-twice source at e =
    let two : at + 1 + 1 ≡ at + 2 = omega arith in
    closed-here 124 Or source (at + 1) e ∙ ap (λ n. found Or (drop n source)) two

or-there : (source : List ℕ) (at : ℕ) → StandsAt source at 124 → begins 124 (drop (at + 1) source) ≡ true →
    option_map lexeme_read (lexeme_at (drop at source)) ≡ Some (Token.OrIf ∷ [], drop (at + 2) source)
or-there source at here e =
    ap (λ l. option_map lexeme_read (lexeme_at l)) here.1
    ∙ ap (λ o. option_map lexeme_read o) (lexeme-or (drop (at + 1) source) ∙ or-twice source at e)

or-single : (source : List ℕ) (at : ℕ) → StandsAt source at 124 → begins 124 (drop (at + 1) source) ≡ false → lexeme_at (drop at source) ≡ None
or-single source at here e = ap lexeme_at here.1 ∙ lexeme-or (drop (at + 1) source) ∙ closed-not 124 Or (drop (at + 1) source) e

-- `&&` and `||`
operator-by : (b : ℕ) → (b == 38 || b == 124) ≡ true → (b ≡ 38) ⊎ (b ≡ 124)
operator-by b e = elim (or_cases (b == 38) (b == 124) e) [ inl h ↦ inl (eqb-true b 38 h) | inr h ↦ inr (eqb-true b 124 h) ]

pub no-operator : (b : ℕ) → (b == 38 || b == 124) ≡ false → (b ≡ 38 → ⊥) × (b ≡ 124 → ⊥)
no-operator b e =
    let p = or_parts (b == 38) (b == 124) e in
    (λ h. both_ways (b == 38) p.0 (eq-eqb b 38 h), λ h. both_ways (b == 124) p.1 (eq-eqb b 124 h))

single-by : (source : List ℕ) (at b : ℕ) → StandsAt source at b → (b ≡ 38) ⊎ (b ≡ 124) → begins b (drop (at + 1) source) ≡ false →
    lexeme_at (drop at source) ≡ None
single-by source at b here (inl e) stop =
    and-single source at (subst (StandsAt source at) e here) (ap (λ k. begins k (drop (at + 1) source)) (sym e) ∙ stop)
single-by source at b here (inr e) stop =
    or-single source at (subst (StandsAt source at) e here) (ap (λ k. begins k (drop (at + 1) source)) (sym e) ∙ stop)

pub and-read : (source : List ℕ) (at b : ℕ) → StandsAt source at b → b ≡ 38 → begins b (drop (at + 1) source) ≡ true →
    option_map lexeme_read (lexeme_at (drop at source)) ≡ Some (Token.AndIf ∷ [], drop (at + 2) source)
and-read source at b here e twice =
    and-there source at (subst (StandsAt source at) e here) (ap (λ k. begins k (drop (at + 1) source)) (sym e) ∙ twice)

or-by : (source : List ℕ) (at b : ℕ) → StandsAt source at b → (b ≡ 38) ⊎ (b ≡ 124) → (b ≡ 38 → ⊥) → begins b (drop (at + 1) source) ≡ true →
    option_map lexeme_read (lexeme_at (drop at source)) ≡ Some (Token.OrIf ∷ [], drop (at + 2) source)
or-by source at b here (inl e) other twice = absurd (other e)
or-by source at b here (inr e) other twice =
    or-there source at (subst (StandsAt source at) e here) (ap (λ k. begins k (drop (at + 1) source)) (sym e) ∙ twice)

pub operator-single : (source : List ℕ) (at b : ℕ) → StandsAt source at b → (b == 38 || b == 124) ≡ true → begins b (drop (at + 1) source) ≡ false →
    lexeme_at (drop at source) ≡ None
operator-single source at b here is stop = single-by source at b here (operator-by b is) stop

pub or-read : (source : List ℕ) (at b : ℕ) → StandsAt source at b → (b == 38 || b == 124) ≡ true → (b ≡ 38 → ⊥) → begins b (drop (at + 1) source) ≡ true →
    option_map lexeme_read (lexeme_at (drop at source)) ≡ Some (Token.OrIf ∷ [], drop (at + 2) source)
or-read source at b here is other twice = or-by source at b here (operator-by b is) other twice

pub comment-there : (source : List ℕ) (at b end : ℕ) → StandsAt source at b → b ≡ 35 → IsRun (λ k. not (k == 10)) source (at + 1) end →
    option_map lexeme_read (lexeme_at (drop at source)) ≡ Some ([], drop end source)
comment-there source at b end here e run =
    ap (λ l. option_map lexeme_read (lexeme_at l)) (there source at b 35 here e)
    ∙ ap (λ o. option_map lexeme_read o) (lexeme-comment (drop (at + 1) source))
    ∙ ap (λ l. Some ([], l)) (sym run.3)

pub joined-begins : (source : List ℕ) (at : ℕ) → begins 92 (drop at source) && begins 10 (drop (at + 1) source) ≡ true →
    (StandsAt source at 92) × (StandsAt source (at + 1) 10)
joined-begins source at e =
    let p = and_parts (begins 92 (drop at source)) (begins 10 (drop (at + 1) source)) e in
    (begins-here 92 source at p.0, begins-here 10 source (at + 1) p.1)

pub joined-line-there : (source : List ℕ) (at : ℕ) → StandsAt source at 92 → StandsAt source (at + 1) 10 →
    option_map lexeme_read (lexeme_at (drop at source)) ≡ Some ([], drop (at + 1 + 1) source)
joined-line-there source at here next' =
    ap (λ l. option_map lexeme_read (lexeme_at l)) (here.1 ∙ ap (λ l. 92 ∷ l) next'.1)
    ∙ ap (λ o. option_map lexeme_read o) (lexeme-joined (drop (at + 1 + 1) source))

-- the tokens of a whole text
if_whole : (q : List Lexeme × List ℕ) → q.1 ≡ [] → tokens_if_whole q ≡ Some (flat_map lexeme_tokens q.0)
if_whole (ls, []) e = refl
if_whole (ls, b ∷ bs) e = absurd (cc)

if_not_whole : (q : List Lexeme × List ℕ) (b : ℕ) (bs : List ℕ) → q.1 ≡ b ∷ bs → tokens_if_whole q ≡ None
if_not_whole (ls, []) b bs e = absurd (cc)
if_not_whole (ls, c ∷ cs) b bs e = refl

tokens-whole : (text : List ℕ) → has_no_nul text ≡ true → lexeme_end text ≡ [] → tokens_of text ≡ Some (tokens_left text)
unfolding tokens_of tokens_left lexeme_end
tokens-whole text clean e = rw clean (if_whole (all lexeme_at text) e)

tokens-not : (text : List ℕ) (b : ℕ) (bs : List ℕ) → has_no_nul text ≡ true → lexeme_end text ≡ b ∷ bs → tokens_of text ≡ None
unfolding tokens_of lexeme_end
tokens-not text b bs clean e = rw clean (if_not_whole (all lexeme_at text) b bs e)

pub nothing-at-end : lexeme_at [] ≡ None
unfolding lexeme_at passed_at
nothing-at-end = refl

-- a text that is read to its end, and one that is not
pub text-whole : (source : List ℕ) → has_no_nul source ≡ true → lexeme_end source ≡ [] → tokens_of source ≡ Some (tokens_left source)
text-whole source clean e = tokens-whole source clean e

not-by : (source rest : List ℕ) → has_no_nul source ≡ true → lexeme_end source ≡ rest → (rest ≡ [] → ⊥) → tokens_of source ≡ None
not-by source [] clean e h = absurd (h refl)
not-by source (b ∷ bs) clean e h = tokens-not source b bs clean e

pub text-not : (source : List ℕ) → has_no_nul source ≡ true → (lexeme_end source ≡ [] → ⊥) → tokens_of source ≡ None
text-not source clean h = not-by source (lexeme_end source) clean refl h

pub nul-read : (source : List ℕ) → has_no_nul source ≡ false → tokens_of source ≡ None
unfolding tokens_of
nul-read source e = rw e refl

pub word_inside : (b : ℕ) → is_blank b ≡ false → (b ≡ 10 → ⊥) → (b ≡ 59 → ⊥) → (b ≡ 38 → ⊥) → (b ≡ 124 → ⊥) → ends_word b ≡ false
unfolding ends_word
word_inside b e n s a o =
    let n' : (b == 10) ≡ false = ne_eqb b 10 n in
    let s' : (b == 59) ≡ false = ne_eqb b 59 s in
    let a' : (b == 38) ≡ false = ne_eqb b 38 a in
    let o' : (b == 124) ≡ false = ne_eqb b 124 o in rw (e, n', s', a', o') refl

all-fails : (test : ℕ → Bool) (xs : List ℕ) (i : ℕ) → i < length xs → test (get_or xs i 0) ≡ false → list_all test xs ≡ false
all-fails test [] i lt e = absurd (omega arith)
all-fails test (x ∷ xs) zero lt e = and_left (test x) (list_all test xs) e
all-fails test (x ∷ xs) (suc i) lt e = and_right (test x) (list_all test xs) (all-fails test xs i (omega arith) e)

pub no-nul : (source : List ℕ) → IsFirstByte (is_byte 0) source None → has_no_nul source ≡ true
no-nul source h =
    let run = found-none 0 source h in
    let whole : front (λ b. not (b == 0)) source ≡ source = sym run.0 ∙ take_all (length source) source (omega arith) in
    subst (λ l. list_all (λ b. not (b == 0)) l ≡ true) whole (front-all (λ b. not (b == 0)) source)

pub a-nul : (source : List ℕ) (place : ℕ) → IsFirstByte (is_byte 0) source (Some place) → has_no_nul source ≡ false
a-nul source place h = all-fails (λ b. not (b == 0)) source place h.0.high (not_from_true _ h.1)
