-- Parts as long as one is found: what they are, given what each is.
use Rattle.std.specs.Prelude.{◌≡◌, ℕ, zero, suc, ◌≤◌, ◌<◌, List, [], ◌∷◌, ◌++◌, Some, None, length}
use Rattle.std.specs.List.{flat_map}
use Rattle.std.proofs.Common.{refl, sym, ◌∙◌, ap, subst, arith, length-append, append_assoc}
use Rattle.hush_words.specs.Words.{FitAll}
use Rattle.hush_words.specs.Reading.{Found, found, many, many_from, all}

-- what is found is there, and fits
abbrev pub FoundFits : {P : Type 0} → (P → List ℕ) → (P → List ℕ → Type 0) → List ℕ → Found P → Type 0
FoundFits text Fits bs None = Unit {0}
FoundFits text Fits bs (Some f) = (bs ≡ text f.0 ++ f.1) × Fits f.0 f.1

-- a part that fits is found
abbrev pub Heads : {P : Type 0} → (P → List ℕ) → (P → List ℕ → Type 0) → (List ℕ → Found P) → Type 0
Heads {P} text Fits at = (p : P) (r : List ℕ) → Fits p r → at (text p ++ r) ≡ found p r

-- and takes a byte at least
abbrev pub Takes : {P : Type 0} → (P → List ℕ) → (P → List ℕ → Type 0) → Type 0
Takes {P} text Fits = (p : P) (r : List ℕ) → Fits p r → 1 ≤ length (text p)

abbrev pub Finds : {P : Type 0} → (P → List ℕ) → (P → List ℕ → Type 0) → (List ℕ → Found P) → Type 0
Finds text Fits at = (bs : List ℕ) → FoundFits text Fits bs (at bs)

-- parts that are next to each other are found, up to where none is
pub many-list : {P : Type 0} (text : P → List ℕ) (Fits : P → List ℕ → Type 0) (at : List ℕ → Found P) →
    Heads text Fits at → Takes text Fits → (ps : List P) (a : List ℕ) (n : ℕ) → FitAll text Fits ps a →
    at a ≡ None → length (flat_map text ps ++ a) ≤ n → many at n (flat_map text ps ++ a) ≡ (ps, a)
many-list text Fits at heads takes [] a zero fit stop enough = refl
many-list text Fits at heads takes [] a (suc n) fit stop enough = rw stop refl
many-list text Fits at heads takes (p ∷ ps) a zero fit stop enough =
    absurd (omega (arith, takes p _ fit.0, length-append (text p ++ flat_map text ps) a, length-append (text p) (flat_map text ps)))
many-list text Fits at heads takes (p ∷ ps) a (suc n) fit stop enough =
    let tail : List ℕ = flat_map text ps ++ a in
    let e : (text p ++ flat_map text ps) ++ a ≡ text p ++ tail = append_assoc (text p) (flat_map text ps) a in
    let at-head : at (text p ++ tail) ≡ found p tail = heads p tail fit.0 in
    let small : length tail ≤ n =
    omega (arith, takes p _ fit.0, ap length e, length-append (text p) tail) in
    let rest = many-list text Fits at heads takes ps a n fit.1 stop small in
    rw e (rw at-head (ap (λ q. (p ∷ q.0, q.1)) rest))

abbrev pub Fitting : {P : Type 0} → (P → List ℕ) → (P → List ℕ → Type 0) → List ℕ → List P × List ℕ → Type 0
Fitting text Fits bs q = (bs ≡ flat_map text q.0 ++ q.1) × FitAll text Fits q.0 q.1

-- what is found of them fits
many_from-fits : {P : Type 0} (text : P → List ℕ) (Fits : P → List ℕ → Type 0) (more : List ℕ → List P × List ℕ) →
    ((bs : List ℕ) → Fitting text Fits bs (more bs)) → (bs : List ℕ) (o : Found P) → FoundFits text Fits bs o →
    Fitting text Fits bs (many_from more bs o)
many_from-fits text Fits more fits bs None h = (refl, tt)
many_from-fits text Fits more fits bs (Some f) h =
    let rest = fits f.1 in (
      h.0 ∙ ap (λ l. text f.0 ++ l) rest.0 ∙ sym (append_assoc (text f.0) (flat_map text (more f.1).0) (more f.1).1),
      (subst (Fits f.0) rest.0 h.1, rest.1),
    )

pub many-fits : {P : Type 0} (text : P → List ℕ) (Fits : P → List ℕ → Type 0) (at : List ℕ → Found P) →
    Finds text Fits at → (n : ℕ) (bs : List ℕ) → Fitting text Fits bs (many at n bs)
many-fits text Fits at finds zero bs = (refl, tt)
many-fits text Fits at finds (suc n) bs =
    many_from-fits text Fits (many at n) (many-fits text Fits at finds n) bs (at bs) (finds bs)

-- each find is shorter than the text
abbrev pub Shorter : {P : Type 0} → List ℕ → Found P → Type 0
Shorter bs None = Unit {0}
Shorter bs (Some f) = length f.1 < length bs

shorter : {P : Type 0} (text : P → List ℕ) (Fits : P → List ℕ → Type 0) → Takes text Fits →
    (bs : List ℕ) (o : Found P) → FoundFits text Fits bs o → Shorter bs o
shorter text Fits takes bs None h = tt
shorter text Fits takes bs (Some f) h =
    omega (arith, takes f.0 f.1 h.1, ap length h.0, length-append (text f.0) f.1)

abbrev pub Shortens : {P : Type 0} → (List ℕ → Found P) → Type 0
Shortens at = (bs : List ℕ) → Shorter bs (at bs)

pub shortens : {P : Type 0} (text : P → List ℕ) (Fits : P → List ℕ → Type 0) (at : List ℕ → Found P) →
    Takes text Fits → Finds text Fits at → Shortens at
shortens text Fits at takes finds bs = shorter text Fits takes bs (at bs) (finds bs)

-- the rest after all that are found has none at its front
many_from-stops : {P : Type 0} (at : List ℕ → Found P) (more : List ℕ → List P × List ℕ) (n : ℕ) →
    ((bs : List ℕ) → length bs ≤ n → at (more bs).1 ≡ None) → (bs : List ℕ) → length bs ≤ suc n → (o : Found P) →
    at bs ≡ o → Shorter bs o → at (many_from more bs o).1 ≡ None
many_from-stops at more n stops bs enough None e h = e
many_from-stops at more n stops bs enough (Some f) e h = stops f.1 (omega arith)

nothing_shorter : {P : Type 0} (o : Found P) → Shorter [] o → o ≡ None
nothing_shorter None h = refl
nothing_shorter (Some f) h = absurd (omega arith)

pub many-stops : {P : Type 0} (at : List ℕ → Found P) → Shortens at → (n : ℕ) (bs : List ℕ) → length bs ≤ n →
    at (many at n bs).1 ≡ None
many-stops at less zero [] enough = nothing_shorter (at []) (less [])
many-stops at less zero (b ∷ bs) enough = absurd (omega arith)
many-stops at less (suc n) bs enough =
    many_from-stops at (many at n) n (many-stops at less n) bs enough (at bs) refl (less bs)

-- how many at most plays no part, if there are enough
many_from-enough : {P : Type 0} (more most : List ℕ → List P × List ℕ) (bs : List ℕ) (o : Found P) → Shorter bs o →
    ((cs : List ℕ) → length cs < length bs → more cs ≡ most cs) → many_from more bs o ≡ many_from most bs o
many_from-enough more most bs None h same = refl
many_from-enough more most bs (Some f) h same = ap (λ q. (f.0 ∷ q.0, q.1)) (same f.1 h)

pub many-enough : {P : Type 0} (at : List ℕ → Found P) → Shortens at → (n m : ℕ) (bs : List ℕ) → length bs ≤ n →
    length bs ≤ m → many at n bs ≡ many at m bs
many-enough at less zero zero bs h k = refl
many-enough at less zero (suc m) [] h k =
    let e : at [] ≡ None = nothing_shorter (at []) (less []) in rw e refl
many-enough at less zero (suc m) (b ∷ bs) h k = absurd (omega arith)
many-enough at less (suc n) zero [] h k =
    let e : at [] ≡ None = nothing_shorter (at []) (less []) in rw e refl
many-enough at less (suc n) zero (b ∷ bs) h k = absurd (omega arith)
many-enough at less (suc n) (suc m) bs h k =
    many_from-enough (many at n) (many at m) bs (at bs) (less bs)
    (λ cs lt. many-enough at less n m cs (omega arith) (omega arith))

pub all-none : {P : Type 0} (at : List ℕ → Found P) (bs : List ℕ) → at bs ≡ None → all at bs ≡ ([], bs)
all-none at [] e = refl
all-none at (b ∷ bs) e = rw e refl

all-from : {P : Type 0} (at : List ℕ → Found P) → Shortens at → (b : ℕ) (bs : List ℕ) (o : Found P) →
    Shorter (b ∷ bs) o → many_from (many at (length bs)) (b ∷ bs) o ≡ many_from (all at) (b ∷ bs) o
all-from at less b bs None h = refl
all-from at less b bs (Some f) h =
    ap (λ q. (f.0 ∷ q.0, q.1)) (many-enough at less (length bs) (length f.1) f.1 (omega arith) (omega arith))

-- all that are found are the first, and all after it
pub all-step : {P : Type 0} (at : List ℕ → Found P) → Shortens at → (bs : List ℕ) →
    all at bs ≡ many_from (all at) bs (at bs)
all-step at less [] = let e : at [] ≡ None = nothing_shorter (at []) (less []) in rw e refl
all-step at less (b ∷ bs) = all-from at less b bs (at (b ∷ bs)) (less (b ∷ bs))

pub all-some : {P : Type 0} (at : List ℕ → Found P) → Shortens at → (bs : List ℕ) (p : P) (r : List ℕ) →
    at bs ≡ found p r → all at bs ≡ (p ∷ (all at r).0, (all at r).1)
all-some at less bs p r e = all-step at less bs ∙ ap (λ o. many_from (all at) bs o) e
