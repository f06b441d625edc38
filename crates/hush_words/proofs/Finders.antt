-- What a part at the front is, by its first bytes: each way to write one is found, and what is found is written there.
use Rattle.std.specs.Prelude.{◌≡◌, ℕ, ◌==◌, ◌||◌, Bool, true, false, not, List, [], ◌∷◌, ◌++◌, Some, None}
use Rattle.std.specs.List.{list_all}
use Rattle.std.specs.Option.{option_map}
use Rattle.std.proofs.Common.{refl, sym, ◌∙◌, ap, subst, arith, append_assoc}
use Rattle.std.proofs.lemmas.Bool.{not-true, not_from_false, and_parts, and_from, or_parts, or_from, ne_eqb, both_ways}
use Rattle.hush_words.specs.Words.{Dollar, dollar_text, FitsDollar, inner_text, FitsInner, next, is_name, is_braced_name, is_blank, ends_word, begins_name, is_in_name, is_in_braces, follows_dollar, is_bare, is_special, is_inner, is_escaped}
use Rattle.hush_words.specs.Words.Dollar.{Name, Braces, LastStatus, Alone}
use Rattle.hush_words.specs.Words.Inner.{Byte, Backslash, EscapedInner, JoinedInner, DollarInner}
use Rattle.hush_words.specs.Reading.{Found, found, front, behind, closed, braces, dollar_at, as_inner, inner_escape, inner_at}
use Rattle.hush_words.proofs.Fronts.{on_test, on_byte, front-append, behind-append, front-behind, front-all, behind-next}
use Rattle.hush_words.proofs.Many.{FoundFits, Heads, Takes, Finds, Shortens, shortens}

-- two bytes that a test tells apart
pub differs : (f : ℕ → Bool) (b k : ℕ) → f b ≡ true → f k ≡ false → (b == k) ≡ false
differs f b k yes' no' = ne_eqb b k (λ e. both_ways (f b) (ap f e ∙ no') yes')

-- what some bytes are
brace_begins : begins_name 123 ≡ false
unfolding begins_name
brace_begins = refl

status_begins : begins_name 63 ≡ false
unfolding begins_name
status_begins = refl

brace_ends : not (is_in_braces 125) ≡ true
unfolding is_in_braces is_blank
brace_ends = refl

pub dollar-inner : is_inner 36 ≡ false
unfolding is_inner
dollar-inner = refl

pub backslash-inner : is_inner 92 ≡ false
unfolding is_inner
backslash-inner = refl

pub quote-inner : is_inner 34 ≡ false
unfolding is_inner
quote-inner = refl

pub newline-escaped : is_escaped 10 ≡ false
unfolding is_escaped
newline-escaped = refl

pub dollar-bare : is_bare 36 ≡ false
unfolding is_bare is_special ends_word is_blank
dollar-bare = refl

pub backslash-bare : is_bare 92 ≡ false
unfolding is_bare is_special ends_word is_blank
backslash-bare = refl

pub single-bare : is_bare 39 ≡ false
unfolding is_bare is_special ends_word is_blank
single-bare = refl

pub double-bare : is_bare 34 ≡ false
unfolding is_bare is_special ends_word is_blank
double-bare = refl

pub not_after_dollar : (b : ℕ) → follows_dollar b ≡ false → (begins_name b ≡ false) × ((b == 123) ≡ false) × ((b == 63) ≡ false)
unfolding follows_dollar
not_after_dollar b e =
    let p = or_parts _ _ e in
    let q = or_parts _ _ p.0 in
    let r = or_parts _ _ q.1 in
    let s = or_parts _ _ r.1 in
    (q.0, r.0, s.0)

-- after a `$`
dollar-name : (n r : List ℕ) → is_name n ≡ true → next (λ b. not (is_in_name b)) r ≡ true → dollar_at (n ++ r) ≡ found (Name n) r
unfolding dollar_at is_name
dollar-name [] r e stops = absurd (both_ways false refl e)
dollar-name (b ∷ bs) r e stops =
    let p = and_parts (begins_name b) (list_all is_in_name bs) e in
    let first : begins_name b ≡ true = p.0 in
    let f : front is_in_name (bs ++ r) ≡ bs = front-append is_in_name bs r p.1 stops in
    let g : behind is_in_name (bs ++ r) ≡ r = behind-append is_in_name bs r p.1 stops in
    rw (first, f, g) refl

dollar-braces : (n r : List ℕ) → is_braced_name n ≡ true → dollar_at ((123 ∷ n ++ 125 ∷ []) ++ r) ≡ found (Braces n) r
unfolding dollar_at is_braced_name
dollar-braces [] r e = absurd (both_ways false refl e)
dollar-braces (b ∷ bs) r e =
    let whole : (b ∷ bs ++ 125 ∷ []) ++ r ≡ b ∷ bs ++ 125 ∷ r = append_assoc (b ∷ bs) (125 ∷ []) r in
    let f : front is_in_braces (b ∷ bs ++ 125 ∷ r) ≡ b ∷ bs = front-append is_in_braces (b ∷ bs) (125 ∷ r) e brace_ends in
    let g : behind is_in_braces (b ∷ bs ++ 125 ∷ r) ≡ 125 ∷ r = behind-append is_in_braces (b ∷ bs) (125 ∷ r) e brace_ends in
    rw brace_begins
    (ap (λ l. braces (front is_in_braces l) (behind is_in_braces l)) whole
    ∙ ap (λ l. braces l (behind is_in_braces (b ∷ bs ++ 125 ∷ r))) f
    ∙ ap (λ l. braces (b ∷ bs) l) g)

dollar-status : (r : List ℕ) → dollar_at (63 ∷ r) ≡ found LastStatus r
unfolding dollar_at
dollar-status r = rw status_begins refl

dollar-alone : (r : List ℕ) → next (λ b. not (follows_dollar b)) r ≡ true → dollar_at r ≡ found Alone r
unfolding dollar_at
dollar-alone [] e = refl
dollar-alone (b ∷ bs) e =
    let f : follows_dollar b ≡ false = not-true (follows_dollar b) e in
    let n = not_after_dollar b f in
    let n0 : begins_name b ≡ false = n.0 in
    let n1 : (b == 123) ≡ false = n.1 in
    let n2 : (b == 63) ≡ false = n.2 in
    rw (n0, n1, n2, f) refl

pub dollar-heads : Heads dollar_text FitsDollar dollar_at
dollar-heads (Name n) r fit = dollar-name n r fit.0 fit.1
dollar-heads (Braces n) r fit = dollar-braces n r fit
dollar-heads LastStatus r fit = dollar-status r
dollar-heads Alone r fit = dollar-alone r fit

closed_braces : (n rest : List ℕ) → is_braced_name n ≡ true → FoundFits dollar_text FitsDollar (123 ∷ n ++ rest) (closed 125 (Braces n) rest)
closed_braces n [] e = tt
closed_braces n (b ∷ bs) e =
    on_byte b 125 (λ k o. FoundFits dollar_text FitsDollar (123 ∷ n ++ k ∷ bs) o) (found (Braces n) bs) None
    (sym (append_assoc (123 ∷ n) (125 ∷ []) bs), e) (λ h. tt)

braces-fits : (n rest : List ℕ) → list_all is_in_braces n ≡ true → FoundFits dollar_text FitsDollar (123 ∷ n ++ rest) (braces n rest)
unfolding is_braced_name
braces-fits [] rest e = tt
braces-fits (b ∷ bs) rest e = closed_braces (b ∷ bs) rest e

pub dollar-finds : Finds dollar_text FitsDollar dollar_at
unfolding dollar_at is_name
dollar-finds [] = (refl, refl)
dollar-finds (b ∷ bs) =
    on_test (begins_name b) (FoundFits dollar_text FitsDollar (b ∷ bs)) _ _
    (λ e. (ap (λ (l : List ℕ). b ∷ l) (front-behind is_in_name bs), (and_from (begins_name b) _ e (front-all is_in_name bs), behind-next is_in_name bs)))
    (λ e. on_byte b 123 (λ k o. FoundFits dollar_text FitsDollar (k ∷ bs) o) _ _
    (subst (λ l. FoundFits dollar_text FitsDollar (123 ∷ l) (braces (front is_in_braces bs) (behind is_in_braces bs)))
    (sym (front-behind is_in_braces bs))
    (braces-fits (front is_in_braces bs) (behind is_in_braces bs) (front-all is_in_braces bs)))
    (λ e'. on_byte b 63 (λ k o. FoundFits dollar_text FitsDollar (k ∷ bs) o) _ _ (refl, tt)
    (λ e''. on_test (follows_dollar b) (FoundFits dollar_text FitsDollar (b ∷ bs)) _ _ (λ f. tt)
    (λ f. (refl, not_from_false (follows_dollar b) f)))))

-- between double quotes
pub escape-alone : (r : List ℕ) → next (λ b. not (is_escaped b || b == 10)) r ≡ true → inner_escape r ≡ found Backslash r
unfolding inner_escape
escape-alone [] e = refl
escape-alone (b ∷ bs) e =
    let p = or_parts (is_escaped b) (b == 10) (not-true (is_escaped b || b == 10) e) in
    let p0 : is_escaped b ≡ false = p.0 in
    let p1 : (b == 10) ≡ false = p.1 in
    rw (p0, p1) refl

pub escape-byte : (b : ℕ) (r : List ℕ) → is_escaped b ≡ true → inner_escape (b ∷ r) ≡ found (EscapedInner b) r
unfolding inner_escape
escape-byte b r e = rw e refl

pub escape-line : (r : List ℕ) → inner_escape (10 ∷ r) ≡ found JoinedInner r
unfolding inner_escape
escape-line r = rw newline-escaped refl

pub inner-dollar : (r : List ℕ) → inner_at (36 ∷ r) ≡ option_map as_inner (dollar_at r)
unfolding inner_at
inner-dollar r = rw dollar-inner refl

pub inner-backslash : (r : List ℕ) → inner_at (92 ∷ r) ≡ inner_escape r
unfolding inner_at
inner-backslash r = rw backslash-inner refl

pub inner-byte : (b : ℕ) (r : List ℕ) → is_inner b ≡ true → inner_at (b ∷ r) ≡ found (Byte b) r
unfolding inner_at
inner-byte b r e = rw e refl

pub inner-heads : Heads inner_text FitsInner inner_at
inner-heads (Byte b) r fit = inner-byte b r fit
inner-heads Backslash r fit = inner-backslash r ∙ escape-alone r fit
inner-heads (EscapedInner b) r fit = inner-backslash (b ∷ r) ∙ escape-byte b r fit
inner-heads JoinedInner r fit = inner-backslash (10 ∷ r) ∙ escape-line r
inner-heads (DollarInner d) r fit =
    inner-dollar (dollar_text d ++ r) ∙ ap (λ o. option_map as_inner o) (dollar-heads d r fit)

as_inner-fits : (bs : List ℕ) (o : Found Dollar) → FoundFits dollar_text FitsDollar bs o →
    FoundFits inner_text FitsInner (36 ∷ bs) (option_map as_inner o)
as_inner-fits bs None h = tt
as_inner-fits bs (Some f) h = (ap (λ (l : List ℕ). 36 ∷ l) h.0, h.1)

inner_escape-finds : (bs : List ℕ) → FoundFits inner_text FitsInner (92 ∷ bs) (inner_escape bs)
unfolding inner_escape
inner_escape-finds [] = (refl, refl)
inner_escape-finds (b ∷ bs) =
    on_test (is_escaped b) (FoundFits inner_text FitsInner (92 ∷ b ∷ bs)) _ _ (λ e. (refl, e))
    (λ e. on_byte b 10 (λ k o. is_escaped k ≡ false → FoundFits inner_text FitsInner (92 ∷ k ∷ bs) o) _ _ (λ h. (refl, tt))
    (λ e' h. (refl, not_from_false _ (or_from (is_escaped b) (b == 10) h e'))) e)

pub inner-finds : Finds inner_text FitsInner inner_at
unfolding inner_at
inner-finds [] = tt
inner-finds (b ∷ bs) =
    on_test (is_inner b) (FoundFits inner_text FitsInner (b ∷ bs)) _ _ (λ e. (refl, e))
    (λ e. on_byte b 36 (λ k o. FoundFits inner_text FitsInner (k ∷ bs) o) _ _ (as_inner-fits bs (dollar_at bs) (dollar-finds bs))
    (λ e'. on_byte b 92 (λ k o. FoundFits inner_text FitsInner (k ∷ bs) o) _ _ (inner_escape-finds bs) (λ e''. tt)))

pub inner-takes : Takes inner_text FitsInner
inner-takes (Byte b) r fit = omega arith
inner-takes Backslash r fit = omega arith
inner-takes (EscapedInner b) r fit = omega arith
inner-takes JoinedInner r fit = omega arith
inner-takes (DollarInner d) r fit = omega arith

pub inner-shortens : Shortens inner_at
inner-shortens = shortens inner_text FitsInner inner_at inner-takes inner-finds
