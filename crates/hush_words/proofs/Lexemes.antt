-- What is at the front of a text where no word is open.
use Rattle.std.specs.Prelude.{◌≡◌, ℕ, ◌≤◌, ◌==◌, true, false, not, List, [], ◌∷◌, ◌++◌, None, length}
use Rattle.std.specs.List.{flat_map}
use Rattle.std.proofs.Common.{refl, ◌∙◌, ap, arith, length-append}
use Rattle.std.proofs.lemmas.Bool.{not-true, not-false, not_from_false, not_from_true, or_left, both_ways}
use Rattle.hush_words.specs.Words.{Piece, piece_text, FitsPiece, FitAll, next, is_blank, ends_word, is_bare, is_special}
use Rattle.hush_words.specs.Words.Piece.{Bare, Joined}
use Rattle.hush_words.specs.Tokens.{lexeme_text, FitsLexeme, opens_word}
use Rattle.hush_words.specs.Tokens.Lexeme.{WordOf, EndOfLine, SemicolonLexeme, And, Or, Blank, JoinedLine, Comment}
use Rattle.hush_words.specs.Reading.{found, front, behind, all, closed, piece_at, word_of, joined_line, passed_at, lexeme_at}
use Rattle.hush_words.proofs.Fronts.{on_test, on_byte, front-append, behind-append, front-behind, front-all, behind-next}
use Rattle.hush_words.proofs.Many.{FoundFits, Heads, Takes, Finds, many-list, many-fits, Shortens, shortens, all-none, all-some}
-- two bytes that a test tells apart
use Rattle.hush_words.proofs.Finders.{differs}
use Rattle.hush_words.proofs.Pieces.{piece-heads, piece-finds, piece-takes, piece-shortens, piece-other, piece-bare, piece-backslash, escape-newline}

blank_ends : (b : ℕ) → is_blank b ≡ true → ends_word b ≡ true
unfolding ends_word
blank_ends b e = or_left (is_blank b) _ e

end_not_bare : (b : ℕ) → ends_word b ≡ true → is_bare b ≡ false
unfolding is_bare
end_not_bare b e = not_from_true _ (or_left (ends_word b) _ e)

ends-36 : ends_word 36 ≡ false
unfolding ends_word is_blank
ends-36 = refl

ends-92 : ends_word 92 ≡ false
unfolding ends_word is_blank
ends-92 = refl

ends-39 : ends_word 39 ≡ false
unfolding ends_word is_blank
ends-39 = refl

ends-34 : ends_word 34 ≡ false
unfolding ends_word is_blank
ends-34 = refl

-- what ends a word is no part of one
pub end-no_piece : (b : ℕ) (r : List ℕ) → ends_word b ≡ true → piece_at (b ∷ r) ≡ None
end-no_piece b r e =
    piece-other b r (end_not_bare b e) (differs ends_word b 36 e ends-36) (differs ends_word b 92 e ends-92)
    (differs ends_word b 39 e ends-39) (differs ends_word b 34 e ends-34)

pub end-stops : (r : List ℕ) → next ends_word r ≡ true → piece_at r ≡ None
unfolding piece_at
end-stops [] e = refl
end-stops (b ∷ bs) e = end-no_piece b bs e

-- where no word opens, something else does
pub passed-here : (text : List ℕ) (q : List Piece × List ℕ) → all piece_at text ≡ q → opens_word q.0 ≡ false → lexeme_at text ≡ passed_at text
unfolding lexeme_at
passed-here text q e f = let g : opens_word (all piece_at text).0 ≡ false = ap (λ w. opens_word w.0) e ∙ f in rw g refl

pub passed-none : (text : List ℕ) → piece_at text ≡ None → lexeme_at text ≡ passed_at text
passed-none text e = passed-here text ([], text) (all-none piece_at text e) refl

pub passed-end : (b : ℕ) (r : List ℕ) → ends_word b ≡ true → lexeme_at (b ∷ r) ≡ passed_at (b ∷ r)
passed-end b r e = passed-none (b ∷ r) (end-no_piece b r e)

pub word-here : (ps : List Piece) (r text : List ℕ) → all piece_at text ≡ (ps, r) → opens_word ps ≡ true → lexeme_at text ≡ word_of ps r
unfolding lexeme_at
word-here ps r text e f =
    let g : opens_word (all piece_at text).0 ≡ true = ap (λ w. opens_word w.0) e ∙ f in
    rw g (ap (λ w. word_of w.0 w.1) e)

passed-blank : (b : ℕ) (r : List ℕ) → is_blank b ≡ true → passed_at (b ∷ r) ≡ found (Blank b) r
unfolding passed_at
passed-blank b r e = rw e refl

passed-newline : (r : List ℕ) → passed_at (10 ∷ r) ≡ found EndOfLine r
unfolding passed_at is_blank
passed-newline r = refl

passed-semicolon : (r : List ℕ) → passed_at (59 ∷ r) ≡ found SemicolonLexeme r
unfolding passed_at is_blank
passed-semicolon r = refl

passed-and : (r : List ℕ) → passed_at (38 ∷ r) ≡ closed 38 And r
unfolding passed_at is_blank
passed-and r = refl

passed-or : (r : List ℕ) → passed_at (124 ∷ r) ≡ closed 124 Or r
unfolding passed_at is_blank
passed-or r = refl

passed-comment : (r : List ℕ) → passed_at (35 ∷ r) ≡ found (Comment (front (λ k. not (k == 10)) r)) (behind (λ k. not (k == 10)) r)
unfolding passed_at is_blank
passed-comment r = refl

passed-joined : (r : List ℕ) → passed_at (92 ∷ 10 ∷ r) ≡ found JoinedLine r
unfolding passed_at is_blank
passed-joined r = refl

ends-10 : ends_word 10 ≡ true
unfolding ends_word is_blank
ends-10 = refl

ends-59 : ends_word 59 ≡ true
unfolding ends_word is_blank
ends-59 = refl

pub ends-38 : ends_word 38 ≡ true
unfolding ends_word is_blank
ends-38 = refl

pub ends-124 : ends_word 124 ≡ true
unfolding ends_word is_blank
ends-124 = refl

bare-35 : is_bare 35 ≡ true
unfolding is_bare is_special ends_word is_blank
bare-35 = refl

pub lexeme-newline : (r : List ℕ) → lexeme_at (10 ∷ r) ≡ found EndOfLine r
lexeme-newline r = passed-end 10 r ends-10 ∙ passed-newline r

pub lexeme-semicolon : (r : List ℕ) → lexeme_at (59 ∷ r) ≡ found SemicolonLexeme r
lexeme-semicolon r = passed-end 59 r ends-59 ∙ passed-semicolon r

pub lexeme-and : (r : List ℕ) → lexeme_at (38 ∷ r) ≡ closed 38 And r
lexeme-and r = passed-end 38 r ends-38 ∙ passed-and r

pub lexeme-or : (r : List ℕ) → lexeme_at (124 ∷ r) ≡ closed 124 Or r
lexeme-or r = passed-end 124 r ends-124 ∙ passed-or r

pub lexeme-blank : (b : ℕ) (r : List ℕ) → is_blank b ≡ true → lexeme_at (b ∷ r) ≡ found (Blank b) r
lexeme-blank b r e = passed-end b r (blank_ends b e) ∙ passed-blank b r e

pub lexeme-joined : (r : List ℕ) → lexeme_at (92 ∷ 10 ∷ r) ≡ found JoinedLine r
lexeme-joined r =
    passed-here (92 ∷ 10 ∷ r) (Joined ∷ (all piece_at r).0, (all piece_at r).1)
    (all-some piece_at piece-shortens (92 ∷ 10 ∷ r) Joined r (piece-backslash (10 ∷ r) ∙ escape-newline r)) refl
    ∙ passed-joined r

pub lexeme-comment : (r : List ℕ) → lexeme_at (35 ∷ r) ≡ found (Comment (front (λ k. not (k == 10)) r)) (behind (λ k. not (k == 10)) r)
lexeme-comment r =
    passed-here (35 ∷ r) (Bare 35 ∷ (all piece_at r).0, (all piece_at r).1)
    (all-some piece_at piece-shortens (35 ∷ r) (Bare 35) r (piece-bare 35 r bare-35)) refl
    ∙ passed-comment r

comment_next : (r : List ℕ) → next (λ b. b == 10) r ≡ true → next (λ b. not (not (b == 10))) r ≡ true
comment_next [] e = refl
comment_next (b ∷ bs) e = not_from_false _ (not_from_true _ e)

pub lexeme-heads : Heads lexeme_text FitsLexeme lexeme_at
lexeme-heads (WordOf ps) r fit =
    word-here ps r (flat_map piece_text ps ++ r)
    (many-list piece_text FitsPiece piece_at piece-heads piece-takes ps r (length (flat_map piece_text ps ++ r)) fit.1 (end-stops r fit.2) (omega arith))
    fit.0
    ∙ (let e : next ends_word r ≡ true = fit.2 in rw e refl)
lexeme-heads EndOfLine r fit = lexeme-newline r
lexeme-heads SemicolonLexeme r fit = lexeme-semicolon r
lexeme-heads And r fit = lexeme-and (38 ∷ r)
lexeme-heads Or r fit = lexeme-or (124 ∷ r)
lexeme-heads (Blank b) r fit = lexeme-blank b r fit
lexeme-heads JoinedLine r fit = lexeme-joined r
lexeme-heads (Comment bs) r fit =
    lexeme-comment (bs ++ r)
    ∙ ap (λ l. found (Comment l) (behind (λ k. not (k == 10)) (bs ++ r))) (front-append (λ k. not (k == 10)) bs r fit.0 (comment_next r fit.1))
    ∙ ap (λ l. found (Comment bs) l) (behind-append (λ k. not (k == 10)) bs r fit.0 (comment_next r fit.1))

closed-and : (bs : List ℕ) → FoundFits lexeme_text FitsLexeme (38 ∷ bs) (closed 38 And bs)
closed-and [] = tt
closed-and (b ∷ bs) = on_byte b 38 (λ k o. FoundFits lexeme_text FitsLexeme (38 ∷ k ∷ bs) o) (found And bs) None (refl, tt) (λ h. tt)

closed-or : (bs : List ℕ) → FoundFits lexeme_text FitsLexeme (124 ∷ bs) (closed 124 Or bs)
closed-or [] = tt
closed-or (b ∷ bs) = on_byte b 124 (λ k o. FoundFits lexeme_text FitsLexeme (124 ∷ k ∷ bs) o) (found Or bs) None (refl, tt) (λ h. tt)

joined-finds : (bs : List ℕ) → FoundFits lexeme_text FitsLexeme (92 ∷ bs) (joined_line bs)
joined-finds [] = tt
joined-finds (b ∷ bs) = on_byte b 10 (λ k o. FoundFits lexeme_text FitsLexeme (92 ∷ k ∷ bs) o) (found JoinedLine bs) None (refl, tt) (λ h. tt)

next-comment : (r : List ℕ) → next (λ b. not (not (b == 10))) r ≡ true → next (λ b. b == 10) r ≡ true
next-comment [] e = refl
next-comment (b ∷ bs) e = not-false (b == 10) (not-true (not (b == 10)) e)

pub passed-finds : (bs : List ℕ) → FoundFits lexeme_text FitsLexeme bs (passed_at bs)
unfolding passed_at
passed-finds [] = tt
passed-finds (b ∷ bs) =
    on_test (is_blank b) (FoundFits lexeme_text FitsLexeme (b ∷ bs)) _ _ (λ e. (refl, e))
    (λ e. on_byte b 10 (λ k o. FoundFits lexeme_text FitsLexeme (k ∷ bs) o) _ _ (refl, tt)
    (λ e'. on_byte b 59 (λ k o. FoundFits lexeme_text FitsLexeme (k ∷ bs) o) _ _ (refl, tt)
    (λ e''. on_byte b 38 (λ k o. FoundFits lexeme_text FitsLexeme (k ∷ bs) o) _ _ (closed-and bs)
    (λ f. on_byte b 124 (λ k o. FoundFits lexeme_text FitsLexeme (k ∷ bs) o) _ _ (closed-or bs)
    (λ f'. on_byte b 35 (λ k o. FoundFits lexeme_text FitsLexeme (k ∷ bs) o) _ _
    (ap (λ (l : List ℕ). 35 ∷ l) (front-behind (λ k. not (k == 10)) bs), (front-all (λ k. not (k == 10)) bs, next-comment (behind (λ k. not (k == 10)) bs) (behind-next (λ k. not (k == 10)) bs)))
    (λ f''. on_byte b 92 (λ k o. FoundFits lexeme_text FitsLexeme (k ∷ bs) o) _ _ (joined-finds bs) (λ g. tt)))))))

pub lexeme-finds : Finds lexeme_text FitsLexeme lexeme_at
unfolding lexeme_at
lexeme-finds bs =
    let f = many-fits piece_text FitsPiece piece_at piece-finds (length bs) bs in
    on_test (opens_word (all piece_at bs).0) (FoundFits lexeme_text FitsLexeme bs) _ _
    (λ e. on_test (next ends_word (all piece_at bs).1) (FoundFits lexeme_text FitsLexeme bs) _ _ (λ e'. (f.0, (e, f.1, e'))) (λ e'. tt))
    (λ e. passed-finds bs)

word-takes : (ps : List Piece) (r : List ℕ) → opens_word ps ≡ true → FitAll piece_text FitsPiece ps r → 1 ≤ length (flat_map piece_text ps)
word-takes [] r e fit = absurd (both_ways false refl e)
word-takes (p ∷ ps) r e fit = omega (arith, piece-takes p _ fit.0, length-append (piece_text p) (flat_map piece_text ps))

pub lexeme-takes : Takes lexeme_text FitsLexeme
lexeme-takes (WordOf ps) r fit = word-takes ps r fit.0 fit.1
lexeme-takes EndOfLine r fit = omega arith
lexeme-takes SemicolonLexeme r fit = omega arith
lexeme-takes And r fit = omega arith
lexeme-takes Or r fit = omega arith
lexeme-takes (Blank b) r fit = omega arith
lexeme-takes JoinedLine r fit = omega arith
lexeme-takes (Comment bs) r fit = omega arith

pub lexeme-shortens : Shortens lexeme_at
lexeme-shortens = shortens lexeme_text FitsLexeme lexeme_at lexeme-takes lexeme-finds
