-- How far the line is shown in which something is found.
use Rattle.std.proofs.Common.{◌≡◌, ◌<◌, ◌≤◌, ℕ, zero, suc, ◌+◌, ◌-◌, Bool, true, false, not, List, [], ◌∷◌, length, refl, sym, ap, ◌∙◌, arith, if◌then◌else◌}
use Rattle.fw_check.specs.Excerpts.{ends_line, is_cut_before, shown_from, shown_to}

not-true : (b : Bool) → not b ≡ true → b ≡ false
not-true true h = sym h
not-true false h = refl

not-false : (b : Bool) → not b ≡ false → b ≡ true
not-false true h = refl
not-false false h = sym h

pub from-on : (text : List ℕ) (most at : ℕ) → 0 < most → is_cut_before text at ≡ true → shown_from (most - 1) text (at - 1) ≡ shown_from most text at
from-on text zero at some cut = absurd (omega (arith, some))
from-on text (suc most) zero some cut = absurd (let no : ◌≡◌ {A = Bool} false true = cut in cc)
from-on text (suc most) (suc at) some cut =
    let a : suc most - 1 ≡ most = omega arith in
    let b : suc at - 1 ≡ at = omega arith in
    (λ i. shown_from (a i) text (b i)) ∙ ap (λ (e : Bool). if e then suc at else shown_from most text at) (sym (not-true (ends_line text at) cut))

pub from-end : (text : List ℕ) (most at : ℕ) → is_cut_before text at ≡ false → at ≡ shown_from most text at
from-end text zero at cut = refl
from-end text (suc most) zero cut = refl
from-end text (suc most) (suc at) cut = ap (λ (e : Bool). if e then suc at else shown_from most text at) (sym (not-false (ends_line text at) cut))

pub to-on : (text : List ℕ) (most at : ℕ) → 0 < most → ends_line text at ≡ false → shown_to (most - 1) text (at + 1) ≡ shown_to most text at
to-on text zero at some goes = absurd (omega (arith, some))
to-on text (suc most) at some goes =
    let a : suc most - 1 ≡ most = omega arith in
    let b : at + 1 ≡ suc at = omega arith in
    (λ i. shown_to (a i) text (b i)) ∙ ap (λ (e : Bool). if e then at else shown_to most text (suc at)) (sym goes)

pub to-end : (text : List ℕ) (most at : ℕ) → ends_line text at ≡ true → at ≡ shown_to most text at
to-end text zero at ends = refl
to-end text (suc most) at ends = ap (λ (e : Bool). if e then at else shown_to most text (suc at)) (sym ends)

pub inside-line : (text : List ℕ) (at : ℕ) → ends_line text at ≡ false → at + 1 ≤ length text
inside-line [] zero goes = absurd (let no : ◌≡◌ {A = Bool} true false = goes in cc)
inside-line [] (suc at) goes = absurd (let no : ◌≡◌ {A = Bool} true false = goes in cc)
inside-line (b ∷ bs) zero goes = omega arith
inside-line (b ∷ bs) (suc at) goes = let inside : at + 1 ≤ length bs = inside-line bs at goes in omega (arith, inside)
