-- Lines, blocks and dot lines, as they are cut.
use Rattle.std.proofs.lemmas.List.{drop-append-le, take-append-le, take-append-drop, take_all, drop_all, length-append}
use Rattle.std.proofs.lemmas.List.Folds.{list_all-append}
use Rattle.std.proofs.lemmas.Bool.{ne_eqb, eq-eqb}
use Rattle.std.proofs.Common.{◌≡◌, ℕ, zero, suc, ◌<◌, ◌≤◌, ◌==◌, ◌++◌, ◌&&◌, ◌||◌, not, if◌then◌else◌, get_or, List, [], ◌∷◌, length, take, drop, true, false, refl, sym, ap, subst, ◌∙◌, arith, append_assoc, append-nil}
use Rattle.std.specs.List.{list_any}
use Rattle.fw_session.specs.Input.{Item, Block, Dot, onto, lines_of, is_dot_line, joined, items_in, items_of, is_ended, is_whole, to_last_dot}
use Rattle.fw_session.specs.Handling.{block_items, before, IsPlain, no_newline, IsPending, IsLine, EndWhole}

line_cut : (line xs : List ℕ) → no_newline line ≡ true → lines_of (line ++ 10 ∷ xs) ≡ (line ++ 10 ∷ []) ∷ lines_of xs
line_cut [] xs e = refl
line_cut (b ∷ bs) xs e =
    elim (b == 10) as (λ v. (not v && no_newline bs ≡ true) → (if v then (b ∷ []) ∷ lines_of (bs ++ 10 ∷ xs) else onto b (lines_of (bs ++ 10 ∷ xs))) ≡ (b ∷ (bs ++ 10 ∷ [])) ∷ lines_of xs) [
      | true ↦ λ k. absurd (cc)
      | false ↦ λ k. ap (onto b) (line_cut bs xs k)
    ] e

last_line : (b : ℕ) (bs : List ℕ) → no_newline (b ∷ bs) ≡ true → lines_of (b ∷ bs) ≡ (b ∷ bs) ∷ []
last_line b [] e =
    elim (b == 10) as (λ v. (not v && true ≡ true) → (if v then (b ∷ []) ∷ [] else (b ∷ []) ∷ []) ≡ (b ∷ []) ∷ []) [ true ↦ λ k. refl | false ↦ λ k. refl ] e
last_line b (c ∷ cs) e =
    elim (b == 10) as (λ v. (not v && no_newline (c ∷ cs) ≡ true) → (if v then (b ∷ []) ∷ lines_of (c ∷ cs) else onto b (lines_of (c ∷ cs))) ≡ (b ∷ c ∷ cs) ∷ []) [
      | true ↦ λ k. absurd (cc)
      | false ↦ λ k. ap (onto b) (last_line c cs k)
    ] e

joined_joined : (a b : List ℕ) (items : List Item) → joined a (joined b items) ≡ joined (a ++ b) items
joined_joined a b [] = refl
joined_joined a b (Block c ∷ items) = ap (λ t. Block t ∷ items) (sym (append_assoc a b c))
joined_joined a b (Dot c ∷ items) = refl

-- a line after a block that may be empty
before_joined : (block line : List ℕ) (b : ℕ) (bs : List ℕ) (items : List Item) → line ≡ b ∷ bs → before block (joined line items) ≡ before (block ++ line) items
before_joined [] line b bs items e = subst (λ l. joined l items ≡ before l items) (sym e) refl
before_joined (c ∷ cs) line b bs items e = joined_joined (c ∷ cs) line items

pub plain_none : IsPlain []
unfolding IsPlain
plain_none xs = refl

snoc_cons : (line : List ℕ) → (b : ℕ) × (bs : List ℕ) × (line ++ 10 ∷ [] ≡ b ∷ bs)
snoc_cons [] = (10, [], refl)
snoc_cons (c ∷ cs) = (c, cs ++ 10 ∷ [], refl)

-- a whole line at the front
items_dot : (line xs : List ℕ) → no_newline line ≡ true → is_dot_line (line ++ 10 ∷ []) ≡ true → items_of ((line ++ 10 ∷ []) ++ xs) ≡ Dot (line ++ 10 ∷ []) ∷ items_of xs
unfolding items_of
items_dot line xs e d =
    ap (λ t. items_in (lines_of t)) (append_assoc line (10 ∷ []) xs) ∙ ap items_in (line_cut line xs e)
    ∙ ap (λ v. if v then Dot (line ++ 10 ∷ []) ∷ items_in (lines_of xs) else joined (line ++ 10 ∷ []) (items_in (lines_of xs))) d

items_plain : (line xs : List ℕ) → no_newline line ≡ true → is_dot_line (line ++ 10 ∷ []) ≡ false → items_of ((line ++ 10 ∷ []) ++ xs) ≡ joined (line ++ 10 ∷ []) (items_of xs)
unfolding items_of
items_plain line xs e d =
    ap (λ t. items_in (lines_of t)) (append_assoc line (10 ∷ []) xs) ∙ ap items_in (line_cut line xs e)
    ∙ ap (λ v. if v then Dot (line ++ 10 ∷ []) ∷ items_in (lines_of xs) else joined (line ++ 10 ∷ []) (items_in (lines_of xs))) d

pub plain_more : (block line : List ℕ) → IsPlain block → no_newline line ≡ true → is_dot_line (line ++ 10 ∷ []) ≡ false → IsPlain (block ++ (line ++ 10 ∷ []))
unfolding IsPlain
plain_more block line plain e d xs =
    let c = snoc_cons line in
    ap items_of (append_assoc block (line ++ 10 ∷ []) xs) ∙ plain ((line ++ 10 ∷ []) ++ xs) ∙ ap (before block) (items_plain line xs e d)
    ∙ before_joined block (line ++ 10 ∷ []) c.0 c.1 (items_of xs) c.2

before_dot : (block line : List ℕ) (items : List Item) → before block (Dot line ∷ items) ≡ (block_items block ++ Dot line ∷ []) ++ items
before_dot [] line items = refl
before_dot (b ∷ bs) line items = refl

pub dot_cut : (block line xs : List ℕ) → IsPlain block → no_newline line ≡ true → is_dot_line (line ++ 10 ∷ []) ≡ true →
    items_of ((block ++ (line ++ 10 ∷ [])) ++ xs) ≡ (block_items block ++ Dot (line ++ 10 ∷ []) ∷ []) ++ items_of xs
unfolding IsPlain
dot_cut block line xs plain e d =
    ap items_of (append_assoc block (line ++ 10 ∷ []) xs) ∙ plain ((line ++ 10 ∷ []) ++ xs) ∙ ap (before block) (items_dot line xs e d)
    ∙ before_dot block (line ++ 10 ∷ []) (items_of xs)

-- a last line without a newline
last_dot : (line : List ℕ) → no_newline line ≡ true → is_dot_line line ≡ true → items_of line ≡ Dot line ∷ []
unfolding items_of
last_dot [] e d = absurd (cc)
last_dot (b ∷ bs) e d = ap items_in (last_line b bs e) ∙ ap (λ v. if v then Dot (b ∷ bs) ∷ [] else joined (b ∷ bs) []) d

last_block : (line : List ℕ) → no_newline line ≡ true → is_dot_line line ≡ false → items_of line ≡ block_items line
unfolding items_of
last_block [] e d = refl
last_block (b ∷ bs) e d = ap items_in (last_line b bs e) ∙ ap (λ v. if v then Dot (b ∷ bs) ∷ [] else joined (b ∷ bs) []) d

before_block : (block line : List ℕ) → before block (block_items line) ≡ block_items (block ++ line)
before_block [] line = refl
before_block (b ∷ bs) [] = ap (λ t. Block (b ∷ t) ∷ []) (sym (append-nil bs))
before_block (b ∷ bs) (c ∷ cs) = refl

pub rest_dot : (block line : List ℕ) → IsPlain block → no_newline line ≡ true → is_dot_line line ≡ true → items_of (block ++ line) ≡ block_items block ++ Dot line ∷ []
unfolding IsPlain
rest_dot block line plain e d = plain line ∙ ap (before block) (last_dot line e d) ∙ before_dot block line [] ∙ append-nil (block_items block ++ Dot line ∷ [])

pub rest_block : (block line : List ℕ) → IsPlain block → no_newline line ≡ true → is_dot_line line ≡ false → items_of (block ++ line) ≡ block_items (block ++ line)
unfolding IsPlain
rest_block block line plain e d = plain line ∙ ap (before block) (last_block line e d) ∙ before_block block line

not_ended : (line : List ℕ) → no_newline line ≡ true → is_ended line ≡ false
not_ended [] e = refl
not_ended (b ∷ []) e = elim (b == 10) as (λ v. (not v && true ≡ true) → v ≡ false) [ true ↦ λ k. absurd (cc) | false ↦ λ k. refl ] e
not_ended (b ∷ c ∷ cs) e =
    not_ended (c ∷ cs) (elim (b == 10) as (λ v. (not v && no_newline (c ∷ cs) ≡ true) → no_newline (c ∷ cs) ≡ true) [ true ↦ λ k. absurd (cc) | false ↦ λ k. k ] e)

ended_snoc : (line : List ℕ) → is_ended (line ++ 10 ∷ []) ≡ true
ended_snoc [] = refl
ended_snoc (b ∷ []) = refl
ended_snoc (b ∷ c ∷ cs) = ended_snoc (c ∷ cs)

no_dot : (block : List ℕ) → to_last_dot (block_items block) ≡ []
unfolding to_last_dot
no_dot [] = refl
no_dot (b ∷ bs) = refl

no_whole_dot : (block line : List ℕ) → is_ended line ≡ false → to_last_dot (block_items block ++ Dot line ∷ []) ≡ []
unfolding to_last_dot
no_whole_dot [] line e = rw e refl
no_whole_dot (b ∷ bs) line e = rw e refl

-- nothing of what waits is up to a last dot line
pub none_whole : (bytes : List ℕ) (start : ℕ) → IsPending bytes start → to_last_dot (items_of bytes) ≡ []
none_whole bytes start p =
    let block = take start bytes in
    let line = drop start bytes in
    subst (λ t. to_last_dot (items_of t) ≡ []) (take-append-drop start bytes)
    (elim (is_dot_line line) as (λ v. is_dot_line line ≡ v → to_last_dot (items_of (block ++ line)) ≡ []) [
      | true ↦ λ d. ap to_last_dot (rest_dot block line p.plain p.unended d) ∙ no_whole_dot block line (not_ended line p.unended)
      | false ↦ λ d. ap to_last_dot (rest_block block line p.plain p.unended d) ∙ no_dot (block ++ line)
    ] refl)

any_whole : (xs rest : List Item) (item : Item) → is_whole item ≡ true → list_any is_whole (xs ++ item ∷ rest) ≡ true
any_whole [] rest item e = rw e refl
any_whole (x ∷ xs) rest item e = elim (is_whole x) as (λ v. (v || list_any is_whole (xs ++ item ∷ rest)) ≡ true) [ true ↦ refl | false ↦ any_whole xs rest item e ]

to_whole : (xs rest : List Item) (item : Item) → is_whole item ≡ true → to_last_dot (xs ++ item ∷ rest) ≡ xs ++ item ∷ to_last_dot rest
unfolding to_last_dot
to_whole [] rest item e = rw e refl
to_whole (x ∷ xs) rest item e = ap (λ v. if v then x ∷ to_last_dot (xs ++ item ∷ rest) else []) (any_whole (x ∷ xs) rest item e) ∙ ap (λ t. x ∷ t) (to_whole xs rest item e)

pub end_none : EndWhole []
unfolding EndWhole
end_none rest = refl

pub end_then : (xs ys : List Item) → EndWhole xs → EndWhole ys → EndWhole (xs ++ ys)
unfolding EndWhole
end_then xs ys p q rest = ap to_last_dot (append_assoc xs ys rest) ∙ p (ys ++ rest) ∙ ap (λ t. xs ++ t) (q rest) ∙ sym (append_assoc xs ys (to_last_dot rest))

pub end_dot : (xs : List Item) (line : List ℕ) → EndWhole (xs ++ Dot (line ++ 10 ∷ []) ∷ [])
unfolding EndWhole
end_dot xs line rest =
    ap to_last_dot (append_assoc xs (Dot (line ++ 10 ∷ []) ∷ []) rest) ∙ to_whole xs rest (Dot (line ++ 10 ∷ [])) (ended_snoc line)
    ∙ sym (append_assoc xs (Dot (line ++ 10 ∷ []) ∷ []) (to_last_dot rest))

-- items after which only what waits comes
pub whole_is : (items : List Item) (bytes : List ℕ) (start : ℕ) → EndWhole items → IsPending bytes start → to_last_dot (items ++ items_of bytes) ≡ items
unfolding EndWhole
whole_is items bytes start w p = w (items_of bytes) ∙ ap (λ t. items ++ t) (none_whole bytes start p) ∙ append-nil items

pub whole_alone : (items : List Item) → EndWhole items → to_last_dot items ≡ items
unfolding EndWhole to_last_dot
whole_alone items w = ap to_last_dot (sym (append-nil items)) ∙ w [] ∙ append-nil items

no_newline-append : (xs ys : List ℕ) → no_newline xs ≡ true → no_newline ys ≡ true → no_newline (xs ++ ys) ≡ true
no_newline-append xs ys p q = list_all-append (λ b. not (b == 10)) xs ys ∙ ap (λ v. v && no_newline ys) p ∙ q

-- one byte more
pub pending_more : (bytes : List ℕ) (start byte : ℕ) → IsPending bytes start → (byte ≡ 10 → ⊥) → IsPending (bytes ++ byte ∷ []) start
pending_more bytes start byte p other =
    let e : (byte == 10) ≡ false = ne_eqb byte 10 other in
    record {
      within = omega (arith, p.within, length-append bytes (byte ∷ []));
      plain = subst IsPlain (sym (take-append-le start bytes (byte ∷ []) p.within)) p.plain;
      unended =
          ap no_newline (drop-append-le start bytes (byte ∷ []) p.within)
          ∙ no_newline-append (drop start bytes) (byte ∷ []) p.unended (ap (λ v. not v && true) e);
    }

pub line_ended : (bytes : List ℕ) (start byte : ℕ) → IsPending bytes start → byte ≡ 10 → IsLine (bytes ++ byte ∷ []) start
line_ended bytes start byte p e = record {
  line = drop start bytes;
  line_is = drop-append-le start bytes (byte ∷ []) p.within ∙ ap (λ b. drop start bytes ++ b ∷ []) e;
  within = omega (arith, p.within, length-append bytes (byte ∷ []));
  plain = subst IsPlain (sym (take-append-le start bytes (byte ∷ []) p.within)) p.plain;
  unended = p.unended;
}

pub pending_none : IsPending [] 0
pending_none = record { within = omega arith; plain = plain_none; unended = refl }

-- a line that isn't a dot line joins the block
pub line_joins : (bytes : List ℕ) (start : ℕ) → IsLine bytes start → is_dot_line (drop start bytes) ≡ false → IsPending bytes (length bytes)
line_joins bytes start p d =
    let d' : is_dot_line (p.line ++ 10 ∷ []) ≡ false = subst (λ t. is_dot_line t ≡ false) p.line_is d in
    let e : take start bytes ++ (p.line ++ 10 ∷ []) ≡ take (length bytes) bytes =
    ap (λ t. take start bytes ++ t) (sym p.line_is) ∙ take-append-drop start bytes ∙ sym (take_all (length bytes) bytes (omega arith)) in
    record {
      within = omega arith;
      plain = subst IsPlain e (plain_more (take start bytes) p.line p.plain p.unended d');
      unended = ap no_newline (drop_all (length bytes) bytes (omega arith));
    }

-- a dot line is cut off, and the block before it
pub line_cuts : (bytes xs : List ℕ) (start : ℕ) → IsLine bytes start → is_dot_line (drop start bytes) ≡ true → items_of (bytes ++ xs) ≡ (block_items (take start bytes) ++ Dot (drop start bytes) ∷ []) ++ items_of xs
line_cuts bytes xs start p d =
    let d' : is_dot_line (p.line ++ 10 ∷ []) ≡ true = subst (λ t. is_dot_line t ≡ true) p.line_is d in
    let e : take start bytes ++ (p.line ++ 10 ∷ []) ≡ bytes = ap (λ t. take start bytes ++ t) (sym p.line_is) ∙ take-append-drop start bytes in
    ap (λ t. items_of (t ++ xs)) (sym e) ∙ dot_cut (take start bytes) p.line xs p.plain p.unended d'
    ∙ ap (λ t. (block_items (take start bytes) ++ Dot t ∷ []) ++ items_of xs) (sym p.line_is)

pub line_whole : (bytes : List ℕ) (start : ℕ) → IsLine bytes start → EndWhole (block_items (take start bytes) ++ Dot (drop start bytes) ∷ [])
line_whole bytes start p = subst (λ t. EndWhole (block_items (take start bytes) ++ Dot t ∷ [])) (sym p.line_is) (end_dot (block_items (take start bytes)) p.line)

pub is_dot : (bytes : List ℕ) (start d : ℕ) → start < length bytes → d ≡ get_or bytes start d → d ≡ 46 → is_dot_line (drop start bytes) ≡ true
is_dot [] start d lt e s = absurd (omega arith)
is_dot (b ∷ bs) zero d lt e s = eq-eqb b 46 (sym e ∙ s)
is_dot (b ∷ bs) (suc n) d lt e s = is_dot bs n d (omega arith) e s

pub is_plain : (bytes : List ℕ) (start d : ℕ) → start < length bytes → d ≡ get_or bytes start d → (d ≡ 46 → ⊥) → is_dot_line (drop start bytes) ≡ false
is_plain [] start d lt e s = absurd (omega arith)
is_plain (b ∷ bs) zero d lt e s = ne_eqb b 46 (λ k. s (e ∙ k))
is_plain (b ∷ bs) (suc n) d lt e s = is_plain bs n d (omega arith) e s

pub is_empty_line : (bytes : List ℕ) (start : ℕ) → length bytes ≤ start → is_dot_line (drop start bytes) ≡ false
is_empty_line bytes start le = ap is_dot_line (drop_all start bytes le)

-- what waits at the end
pub rest_is_dot : (bytes : List ℕ) (start : ℕ) → IsPending bytes start → is_dot_line (drop start bytes) ≡ true → items_of bytes ≡ block_items (take start bytes) ++ Dot (drop start bytes) ∷ []
rest_is_dot bytes start p d = ap items_of (sym (take-append-drop start bytes)) ∙ rest_dot (take start bytes) (drop start bytes) p.plain p.unended d

pub rest_is_block : (bytes : List ℕ) (start : ℕ) → IsPending bytes start → is_dot_line (drop start bytes) ≡ false → items_of bytes ≡ block_items bytes
rest_is_block bytes start p d =
    ap items_of (sym (take-append-drop start bytes)) ∙ rest_block (take start bytes) (drop start bytes) p.plain p.unended d ∙ ap block_items (take-append-drop start bytes)
