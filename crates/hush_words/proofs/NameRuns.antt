-- How far the name goes that unquoted plain bytes begin.
use Rattle.std.specs.Prelude.{◌≡◌, ℕ, ◌+◌, ◌-◌, ◌<◌, ◌≤◌, ◌==◌, ◌&&◌, Bool, true, false, not, List, [], ◌∷◌, ◌++◌, map, length, take, drop, Option, Some, None, is_some}
use Rattle.std.specs.List.{list_all}
use Rattle.std.specs.Option.{option_map}
use Rattle.std.proofs.Common.{refl, sym, ◌∙◌, ap, subst, arith, append_assoc, append-nil}
use Rattle.std.proofs.lemmas.Bool.{and_parts, cond-true, cond-false, both_ways}
use Rattle.std.proofs.lemmas.List.{map-append}
use Rattle.hush_words.specs.Words.{Atom, Piece, Dollar, piece_atoms, begins_name, is_in_name, is_bare, is_special, ends_word, is_blank}
use Rattle.hush_words.specs.Words.Atom.{Plain}
use Rattle.hush_words.specs.Words.Dollar.{Name, Braces, LastStatus, Alone}
use Rattle.hush_words.specs.Words.Piece.{Bare, Joined, Single, Double}
use Rattle.hush_words.specs.Forms.{goes_on, with_byte, name_from, name_of, value_from, assignment_from, assignment_of}
use Rattle.hush_words.specs.Reading.{Found, found, front, behind, all, as_piece, closed, dollar_at, inner_at, escape_at, single_at, double_at, piece_at, piece_atoms_left}
use Rattle.hush_words.specs.Parts.{range_bytes}
use Rattle.hush_words.specs.Steps.{begins, behind_front, behind_name, StandsAt, IsRun, GoesOn, ReadsPlain, NameStops, SplitsAt}
use Rattle.hush_words.proofs.ClassLemmas.{name-bare}
use Rattle.hush_words.proofs.DollarLemmas.{in_name, begins-here}
use Rattle.hush_words.proofs.Fronts.{on_test, front-all}
use Rattle.hush_words.proofs.Inners.{run-takes}
use Rattle.hush_words.proofs.Pieces.{piece-bare, piece-backslash, escape-newline}
use Rattle.hush_words.proofs.PieceLemmas.{piece-one, piece-none, piece-run, nothing-left, nothing, range-rest, range-join}

-- names
shifted-name : (b : ℕ) (front : List ℕ) (o : Option (List ℕ)) → option_map (λ n. b ∷ n) (behind_name front o) ≡ behind_name (b ∷ front) o
shifted-name b front None = refl
shifted-name b front (Some n) = refl

shifted-assignment : (b : ℕ) (front : List ℕ) (o : Option (List ℕ × List Atom)) →
    option_map (with_byte b) (behind_front front o) ≡ behind_front (b ∷ front) o
shifted-assignment b front None = refl
shifted-assignment b front (Some f) = refl

same-name : (o : Option (List ℕ)) → o ≡ behind_name [] o
same-name None = refl
same-name (Some n) = refl

same-assignment : (o : Option (List ℕ × List Atom)) → o ≡ behind_front [] o
same-assignment None = refl
same-assignment (Some f) = refl

-- bytes that go on with a name
run-on : (bs : List ℕ) → list_all is_in_name bs ≡ true → GoesOn true bs true
run-on [] all = (λ more. same-name (name_from true more), λ more. same-assignment (assignment_from true more))
run-on (b ∷ bs) all =
    let p = and_parts (is_in_name b) (list_all is_in_name bs) all in
    let e : is_in_name b ≡ true = p.0 in
    let rest = run-on bs p.1 in (
      λ more. rw e (ap (λ o. option_map (λ n. b ∷ n) o) (rest.0 more) ∙ shifted-name b bs (name_from true more)),
      λ more. rw e (ap (λ o. option_map (with_byte b) o) (rest.1 more) ∙ shifted-assignment b bs (assignment_from true more)),
    )

name-on : (begun : Bool) (b : ℕ) (bs : List ℕ) → goes_on begun b ≡ true → list_all is_in_name bs ≡ true → GoesOn begun (b ∷ bs) true
name-on begun b bs e all =
    let rest = run-on bs all in (
      λ more. cond-true (goes_on begun b) (option_map (λ n. b ∷ n) (name_from true (map Plain bs ++ more))) None e
          ∙ ap (λ o. option_map (λ n. b ∷ n) o) (rest.0 more) ∙ shifted-name b bs (name_from true more),
      λ more. cond-true (goes_on begun b) (option_map (with_byte b) (assignment_from true (map Plain bs ++ more))) (value_from begun b (map Plain bs ++ more)) e
          ∙ ap (λ o. option_map (with_byte b) o) (rest.1 more) ∙ shifted-assignment b bs (assignment_from true more),
    )

pub none-on : (begun : Bool) → GoesOn begun [] begun
none-on begun = (λ more. same-name (name_from begun more), λ more. same-assignment (assignment_from begun more))

twice-name : (front k : List ℕ) (o : Option (List ℕ)) → behind_name front (behind_name k o) ≡ behind_name (front ++ k) o
twice-name front k None = refl
twice-name front k (Some n) = ap (λ l. Some l) (sym (append_assoc front k n))

twice-behind : (front k : List ℕ) (o : Option (List ℕ × List Atom)) → behind_front front (behind_front k o) ≡ behind_front (front ++ k) o
twice-behind front k None = refl
twice-behind front k (Some a) = ap (λ l. Some (l, a.1)) (sym (append_assoc front k a.0))

plain-both : (xs ys : List ℕ) (more : List Atom) → map Plain (xs ++ ys) ++ more ≡ map Plain xs ++ (map Plain ys ++ more)
plain-both xs ys more = ap (λ l. l ++ more) (map-append Plain xs ys) ∙ append_assoc (map Plain xs) (map Plain ys) more

pub both-on : (begun mid now : Bool) (xs ys : List ℕ) → GoesOn begun xs mid → GoesOn mid ys now → GoesOn begun (xs ++ ys) now
both-on begun mid now xs ys f g = (
  λ more. ap (name_from begun) (plain-both xs ys more) ∙ f.0 (map Plain ys ++ more) ∙ ap (behind_name xs) (g.0 more) ∙ twice-name xs ys (name_from now more),
  λ more. ap (assignment_from begun) (plain-both xs ys more) ∙ f.1 (map Plain ys ++ more) ∙ ap (behind_front xs) (g.1 more)
      ∙ twice-behind xs ys (assignment_from now more),
)

-- ranges that are read as plain bytes
pub none-read : ReadsPlain [] []
none-read rest = refl

pub none-range : (source : List ℕ) (at : ℕ) → ReadsPlain (range_bytes source at at) []
none-range source at =
    let none : at - at ≡ 0 = omega arith in
    subst (λ l. ReadsPlain l []) (sym (ap (λ n. take n (drop at source)) none)) none-read

pub both-read : (r s xs ys : List ℕ) → ReadsPlain r xs → ReadsPlain s ys → ReadsPlain (r ++ s) (xs ++ ys)
both-read r s xs ys f g rest =
    ap piece_atoms_left (append_assoc r s rest) ∙ f (s ++ rest) ∙ ap (λ l. map Plain xs ++ l) (g rest) ∙ sym (plain-both xs ys (piece_atoms_left rest))

all-bare : (bs : List ℕ) → list_all is_in_name bs ≡ true → list_all is_bare bs ≡ true
all-bare [] e = refl
all-bare (b ∷ bs) e =
    let p = and_parts (is_in_name b) (list_all is_in_name bs) e in
    let bare : is_bare b ≡ true = name-bare b p.0 in
    rw bare (all-bare bs p.1)

goes-in : (begun : Bool) (b : ℕ) → goes_on begun b ≡ true → is_in_name b ≡ true
goes-in true b e = e
goes-in false b e = in_name b e

front-goes : (b : ℕ) (bs : List ℕ) → is_in_name b ≡ true → front is_in_name (b ∷ bs) ≡ b ∷ front is_in_name bs
front-goes b bs e = rw e refl

-- a run of a name's bytes
pub run-goes : (source : List ℕ) (at end b : ℕ) (begun : Bool) → StandsAt source at b → goes_on begun b ≡ true → IsRun is_in_name source at end →
    (at < end) × ReadsPlain (range_bytes source at end) (range_bytes source at end) × GoesOn begun (range_bytes source at end) true
run-goes source at end b begun here on run =
    let inside = goes-in begun b on in
    let more : List ℕ = front is_in_name (drop (at + 1) source) in
    let bytes : range_bytes source at end ≡ b ∷ more = run.2 ∙ ap (front is_in_name) here.1 ∙ front-goes b (drop (at + 1) source) inside in
    let all : list_all is_in_name (range_bytes source at end) ≡ true = ap (list_all is_in_name) run.2 ∙ front-all is_in_name (drop at source) in (
      run-takes is_in_name source at end b here inside run,
      λ rest. (piece-run (range_bytes source at end) rest (all-bare (range_bytes source at end) all)).0,
      subst (λ l. GoesOn begun l true) (sym bytes) (name-on begun b more on (front-all is_in_name (drop (at + 1) source))),
    )

-- a joined line within a name
line-read : ReadsPlain (92 ∷ 10 ∷ []) []
line-read rest = (piece-one (92 ∷ 10 ∷ rest) Joined rest (piece-backslash (10 ∷ rest) ∙ escape-newline rest)).0

pub line-bytes : (source : List ℕ) (at : ℕ) → begins 92 (drop at source) && begins 10 (drop (at + 1) source) ≡ true →
    (at + 2 ≤ length source) × (range_bytes source at (at + 2) ≡ 92 ∷ 10 ∷ [])
line-bytes source at e =
    let p = and_parts (begins 92 (drop at source)) (begins 10 (drop (at + 1) source)) e in
    let here = begins-here 92 source at p.0 in
    let next' = begins-here 10 source (at + 1) p.1 in
    let two : at + 2 - at ≡ 2 = omega arith in
    (omega (arith, next'.0), ap (λ n. take n (drop at source)) two ∙ ap (take 2) (here.1 ∙ ap (λ (l : List ℕ). 92 ∷ l) next'.1))

pub line-goes : (source : List ℕ) (at : ℕ) → begins 92 (drop at source) && begins 10 (drop (at + 1) source) ≡ true →
    (at + 2 ≤ length source) × ReadsPlain (range_bytes source at (at + 2)) []
line-goes source at e =
    let line = line-bytes source at e in
    (line.0, subst (λ l. ReadsPlain l []) (sym line.1) line-read)

-- a step further
pub step-on : (source : List ℕ) (start mid end : ℕ) (begun now : Bool) (xs ys : List ℕ) → start ≤ mid → mid ≤ end →
    ReadsPlain (range_bytes source start mid) xs → GoesOn false xs begun → ReadsPlain (range_bytes source mid end) ys → GoesOn begun ys now →
    ReadsPlain (range_bytes source start end) (xs ++ ys) × GoesOn false (xs ++ ys) now
step-on source start mid end begun now xs ys low high f g h k = (
  subst (λ l. ReadsPlain l (xs ++ ys)) (sym (range-join source start mid end low high))
      (both-read (range_bytes source start mid) (range_bytes source mid end) xs ys f h),
  both-on false begun now xs ys g k,
)

-- where nothing goes on with a name, what is there is no part of it
abbrev Other : (begun : Bool) → ℕ → Found Piece → Type 0
Other begun b None = Unit {0}
Other begun b (Some f) =
    (more : List Atom) →
    (name_from begun (piece_atoms f.0 ++ more) ≡ None) × (begun && b == 61 ≡ false → assignment_from begun (piece_atoms f.0 ++ more) ≡ None)

alone-other : (begun : Bool) (more : List Atom) → (name_from begun (Plain 36 ∷ more) ≡ None) × (assignment_from begun (Plain 36 ∷ more) ≡ None)
unfolding is_in_name begins_name
alone-other true more = (refl, refl)
alone-other false more = (refl, refl)

dollar-other : (begun : Bool) (b : ℕ) (o : Found Dollar) → Other begun b (option_map as_piece o)
dollar-other begun b None = tt
dollar-other begun b (Some (Name n, r)) = λ more. (refl, λ e. refl)
dollar-other begun b (Some (Braces n, r)) = λ more. (refl, λ e. refl)
dollar-other begun b (Some (LastStatus, r)) = λ more. (refl, λ e. refl)
dollar-other begun b (Some (Alone, r)) = λ more. ((alone-other begun more).0, λ e. (alone-other begun more).1)

escape-other : (begun : Bool) (b : ℕ) (bs : List ℕ) → begins 10 bs ≡ false → Other begun b (escape_at bs)
unfolding escape_at
escape-other begun b [] e = tt
escape-other begun b (c ∷ cs) e = rw e (λ more. (refl, λ e'. refl))

closed-other : (begun : Bool) (b k : ℕ) (p : Piece) (bs : List ℕ) →
    ((more : List Atom) → (name_from begun (piece_atoms p ++ more) ≡ None) × (begun && b == 61 ≡ false → assignment_from begun (piece_atoms p ++ more) ≡ None)) →
    Other begun b (closed k p bs)
closed-other begun b k p [] h = tt
closed-other begun b k p (c ∷ cs) h = on_test (c == k) (Other begun b) (found p cs) None (λ e. h) (λ e. tt)

single-other : (begun : Bool) (b : ℕ) (bs : List ℕ) → Other begun b (single_at bs)
unfolding single_at
single-other begun b bs = closed-other begun b 39 (Single (front (λ k. not (k == 39)) bs)) (behind (λ k. not (k == 39)) bs) (λ more. (refl, λ e. refl))

double-other : (begun : Bool) (b : ℕ) (bs : List ℕ) → Other begun b (double_at bs)
unfolding double_at
double-other begun b bs = closed-other begun b 34 (Double (all inner_at bs).0) (all inner_at bs).1 (λ more. (refl, λ e. refl))

bare-other : (begun : Bool) (b : ℕ) (more : List Atom) → goes_on begun b ≡ false →
    (name_from begun (Plain b ∷ more) ≡ None) × (begun && b == 61 ≡ false → assignment_from begun (Plain b ∷ more) ≡ None)
bare-other begun b more off = (
  cond-false (goes_on begun b) (option_map (λ n. b ∷ n) (name_from true more)) None off,
  λ e. cond-false (goes_on begun b) (option_map (with_byte b) (assignment_from true more)) (value_from begun b more) off
      ∙ cond-false (begun && b == 61) (Some ([], more)) None e,
)

piece-other : (begun : Bool) (b : ℕ) (bs : List ℕ) → NameStops begun (b ∷ bs) → Other begun b (piece_at (b ∷ bs))
unfolding piece_at
piece-other begun b bs stops =
    on_test (is_bare b) (Other begun b) _ _ (λ e more. bare-other begun b more stops.0)
    (λ e. on_test (b == 36) (Other begun b) _ _ (λ d. dollar-other begun b (dollar_at bs))
    (λ d. on_test (b == 92) (Other begun b) _ _ (λ s. escape-other begun b bs (rw s at stops.1))
    (λ s. on_test (b == 39) (Other begun b) _ _ (λ q. single-other begun b bs)
    (λ q. on_test (b == 34) (Other begun b) _ _ (λ w. double-other begun b bs) (λ w. tt)))))

stopped-by : (begun : Bool) (b : ℕ) (bs : List ℕ) (o : Found Piece) → piece_at (b ∷ bs) ≡ o → Other begun b o →
    (is_some o ≡ true → name_from begun (piece_atoms_left (b ∷ bs)) ≡ None) ×
    (begun && b == 61 ≡ false → assignment_from begun (piece_atoms_left (b ∷ bs)) ≡ None)
stopped-by begun b bs None e other =
    let none = (piece-none (b ∷ bs) e).0 in
    (λ h. absurd (both_ways false refl h), λ h. ap (assignment_from begun) none)
stopped-by begun b bs (Some f) e other =
    let one = (piece-one (b ∷ bs) f.0 f.1 e).0 in
    let o = other (piece_atoms_left f.1) in
    (λ h. ap (name_from begun) one ∙ o.0, λ h. ap (assignment_from begun) one ∙ o.1 h)

-- a name is one if no piece is after it
pub name-not : (begun : Bool) (text : List ℕ) → NameStops begun text → is_some (piece_at text) ≡ true → name_from begun (piece_atoms_left text) ≡ None
name-not begun [] stops e = absurd (both_ways (is_some (piece_at [])) (ap (λ o. is_some o) nothing-left) e)
name-not begun (b ∷ bs) stops e = (stopped-by begun b bs (piece_at (b ∷ bs)) refl (piece-other begun b bs stops)).0 e

none-by : (text : List ℕ) (o : Found Piece) → piece_at text ≡ o → is_some o ≡ false → piece_atoms_left text ≡ []
none-by text None e h = (piece-none text e).0
none-by text (Some f) e h = absurd (both_ways true h refl)

begun-some : (begun : Bool) → is_some (name_from begun []) ≡ begun
begun-some true = refl
begun-some false = refl

some-behind : (front : List ℕ) (o : Option (List ℕ)) → is_some (behind_name front o) ≡ is_some o
some-behind front None = refl
some-behind front (Some n) = refl

-- through a name
name-through : (source : List ℕ) (start at : ℕ) (bytes : List ℕ) (begun : Bool) → start ≤ at → ReadsPlain (range_bytes source start at) bytes →
    GoesOn false bytes begun → is_some (name_of (piece_atoms_left (drop start source))) ≡ is_some (name_from begun (piece_atoms_left (drop at source)))
unfolding name_of
name-through source start at bytes begun ordered reads goes =
    ap (λ l. is_some (name_from false l)) (ap piece_atoms_left (range-rest source start at ordered) ∙ reads (drop at source))
    ∙ ap (λ o. is_some o) (goes.0 (piece_atoms_left (drop at source))) ∙ some-behind bytes (name_from begun (piece_atoms_left (drop at source)))

pub name-told-by : (source : List ℕ) (start at : ℕ) (bytes : List ℕ) (begun goes : Bool) → start ≤ at → NameStops begun (drop at source) →
    ReadsPlain (range_bytes source start at) bytes → GoesOn false bytes begun → goes ≡ is_some (piece_at (drop at source)) →
    (goes ≡ true → false ≡ is_some (name_of (piece_atoms_left (drop start source)))) ×
    (goes ≡ false → begun ≡ is_some (name_of (piece_atoms_left (drop start source))))
name-told-by source start at bytes begun goes ordered stops reads on is = (
  λ e. sym (name-through source start at bytes begun ordered reads on
      ∙ ap (λ o. is_some o) (name-not begun (drop at source) stops (sym is ∙ e))),
  λ e. sym (name-through source start at bytes begun ordered reads on
      ∙ ap (λ l. is_some (name_from begun l)) (none-by (drop at source) (piece_at (drop at source)) refl (sym is ∙ e)) ∙ begun-some begun),
)

-- and through an assignment
assignment-through : (source : List ℕ) (start at : ℕ) (bytes : List ℕ) (begun : Bool) → start ≤ at → ReadsPlain (range_bytes source start at) bytes →
    GoesOn false bytes begun → assignment_of (piece_atoms_left (drop start source)) ≡ behind_front bytes (assignment_from begun (piece_atoms_left (drop at source)))
unfolding assignment_of
assignment-through source start at bytes begun ordered reads goes =
    ap (assignment_from false) (ap piece_atoms_left (range-rest source start at ordered) ∙ reads (drop at source)) ∙ goes.1 (piece_atoms_left (drop at source))

stops-assigning : (begun : Bool) (text : List ℕ) → NameStops begun text → begun && begins 61 text ≡ false → assignment_from begun (piece_atoms_left text) ≡ None
stops-assigning begun [] stops e = ap (assignment_from begun) nothing
stops-assigning begun (b ∷ bs) stops e = (stopped-by begun b bs (piece_at (b ∷ bs)) refl (piece-other begun b bs stops)).1 e

pub no-equals : (source : List ℕ) (start at : ℕ) (bytes : List ℕ) (begun : Bool) → start ≤ at → NameStops begun (drop at source) →
    ReadsPlain (range_bytes source start at) bytes → GoesOn false bytes begun → begun && begins 61 (drop at source) ≡ false →
    SplitsAt source start None
no-equals source start at bytes begun ordered stops reads goes e =
    assignment-through source start at bytes begun ordered reads goes ∙ ap (behind_front bytes) (stops-assigning begun (drop at source) stops e)

pub no-name : (source : List ℕ) (start at : ℕ) (bytes : List ℕ) (begun : Bool) → start ≤ at → NameStops begun (drop at source) →
    ReadsPlain (range_bytes source start at) bytes → GoesOn false bytes begun → begun ≡ false → SplitsAt source start None
no-name source start at bytes begun ordered stops reads goes e =
    no-equals source start at bytes begun ordered stops reads goes (ap (λ t. t && begins 61 (drop at source)) e)

equals-bare : is_bare 61 ≡ true
unfolding is_bare ends_word is_special is_blank
equals-bare = refl

equals-piece : (bs : List ℕ) → piece_atoms_left (61 ∷ bs) ≡ Plain 61 ∷ piece_atoms_left bs
equals-piece bs = (piece-one (61 ∷ bs) (Bare 61) bs (piece-bare 61 bs equals-bare)).0

equals-value : (rest : List Atom) → assignment_from true (Plain 61 ∷ rest) ≡ Some ([], rest)
unfolding is_in_name begins_name
equals-value rest = refl

pub equals-there : (source : List ℕ) (start at : ℕ) (bytes : List ℕ) (begun : Bool) → start ≤ at → ReadsPlain (range_bytes source start at) bytes →
    GoesOn false bytes begun → begun ≡ true → begins 61 (drop at source) ≡ true → SplitsAt source start (Some at)
equals-there source start at bytes begun ordered reads goes is e =
    let here = begins-here 61 source at e in
    let rest : List Atom = piece_atoms_left (drop (at + 1) source) in (
      ordered,
      here.0,
      bytes,
      sym (ap piece_atoms_left (append-nil (range_bytes source start at))) ∙ reads [] ∙ ap (λ l. map Plain bytes ++ l) nothing ∙ append-nil (map Plain bytes),
      assignment-through source start at bytes begun ordered reads goes
          ∙ ap (λ t. behind_front bytes (assignment_from t (piece_atoms_left (drop at source)))) is
          ∙ ap (λ l. behind_front bytes (assignment_from true l)) (ap piece_atoms_left here.1 ∙ equals-piece (drop (at + 1) source))
          ∙ ap (behind_front bytes) (equals-value rest) ∙ ap (λ l. Some (l, rest)) (append-nil bytes),
    )
