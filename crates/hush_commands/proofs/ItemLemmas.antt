-- Items, and the fields that they make.
use Rattle.std.proofs.Common.{◌≡◌, ℕ, zero, suc, ◌+◌, ◌-◌, ◌<◌, ◌≤◌, Bool, true, false, eqb, not, ◌&&◌, ◌||◌, List, [], ◌∷◌, ◌++◌, map, filter, take, drop, length, get_or, Option, Some, None, refl, sym, ap, ◌∙◌, append_assoc, append-nil, arith, length-drop, subst}
use Rattle.std.specs.Prelude.{if◌then◌else◌}
use Rattle.std.proofs.lemmas.Bool.{false_from_ne_true, eqb-true}
use Rattle.std.proofs.lemmas.Grind.{flat_map-append, fold-append}
use Rattle.std.proofs.lemmas.List.{map-append, take_rest}
use Rattle.memchr.specs.Find.{IsFirstByte}
use Rattle.hush_words.specs.Words.Atom.{Plain, Quoted}
use Rattle.hush_words.specs.Parts.{part_atoms, span_bytes}
use Rattle.hush_words.specs.declared.parts.Span.{Span}
use Rattle.hush_words.specs.declared.parts.Part.{Part}
use Rattle.hush_words.specs.declared.parts.Part.TheVariants as part
use Rattle.hush_commands.specs.Expansion.{Known, value_in, atom_items, Item, Byte, Split, Mark, splits, substituted, cut_items, items_of, item_bytes, bytes_of, onto_first, cut, is_there, fields, size}
use Rattle.hush_commands.specs.Buffers.{Made, whole, opened, closed, with_bytes, ended, with_items, joined, kept, AddsItems, AddsPart, CutsAt, with_item}
use Rattle.std.specs.Prelude.{Ok, Err, Result, decimal}
use Rattle.hush_words.specs.Words.{Atom}
use Rattle.hush_commands.specs.declared.expansion.ExpansionFault.{ExpansionFault}
use Rattle.hush_commands.specs.declared.expansion.ExpansionFault.TheVariants.{Word, Memory}

abbrev making : List (List ℕ) → Option (List ℕ) → Made
making done begun = record { done = done; begun = begun }

-- the fields of pieces of which the first is after what is begun
with_open : Option (List ℕ) → List (List Item) → List (List ℕ)
with_open None ps = map bytes_of (filter is_there ps)
with_open (Some f) [] = f ∷ []
with_open (Some f) (p ∷ ps) = (f ++ bytes_of p) ∷ map bytes_of (filter is_there ps)

open_on : (begun : Option (List ℕ)) (i : Item) (f : List ℕ) (ps : List (List Item)) → f ≡ opened begun ++ item_bytes i → with_open (Some f) ps ≡ with_open begun (onto_first i ps)
unfolding with_open
open_on None i f [] e = ap (λ (x : List ℕ). x ∷ []) (e ∙ sym (append-nil (item_bytes i)))
open_on None i f (p ∷ ps) e = ap (λ (x : List ℕ). (x ++ bytes_of p) ∷ map bytes_of (filter is_there ps)) e
open_on (Some g) i f [] e = ap (λ (x : List ℕ). x ∷ []) (e ∙ ap (λ (z : List ℕ). g ++ z) (sym (append-nil (item_bytes i))))
open_on (Some g) i f (p ∷ ps) e = ap (λ (x : List ℕ). x ∷ map bytes_of (filter is_there ps)) (ap (λ (y : List ℕ). y ++ bytes_of p) e ∙ append_assoc g (item_bytes i) (bytes_of p))

closed_on : (begun : Option (List ℕ)) (ps : List (List Item)) → closed begun ++ map bytes_of (filter is_there ps) ≡ with_open begun ([] ∷ ps)
unfolding with_open
closed_on None ps = refl
closed_on (Some f) ps = ap (λ (x : List ℕ). x ∷ map bytes_of (filter is_there ps)) (sym (append-nil f))

behind : (done : List (List ℕ)) (begun : Option (List ℕ)) (is : List Item) → ended (with_items (making done begun) is) ≡ whole (done ++ with_open begun (cut is))
unfolding with_open
behind done None [] = refl
behind done (Some f) [] = ap (λ (x : List ℕ). whole (done ++ x ∷ [])) (sym (append-nil f))
behind done begun (Byte b ∷ is) = behind done (Some (opened begun ++ b ∷ [])) is ∙ ap (λ (x : List (List ℕ)). whole (done ++ x)) (open_on begun (Byte b) (opened begun ++ b ∷ []) (cut is) refl)
behind done begun (Mark ∷ is) = behind done (Some (opened begun ++ [])) is ∙ ap (λ (x : List (List ℕ)). whole (done ++ x)) (open_on begun Mark (opened begun ++ []) (cut is) refl)
behind done begun (Split b ∷ is) =
    behind (done ++ closed begun) None is
    ∙ ap whole (append_assoc done (closed begun) (with_open None (cut is)))
    ∙ ap (λ (x : List (List ℕ)). whole (done ++ x)) (closed_on begun (cut is))

-- the items of a word make its fields
pub fields_made : (done : List (List ℕ)) (is : List Item) → ended (with_items (whole done) is) ≡ whole (done ++ fields is)
unfolding fields with_open
fields_made done is = behind done None is

-- and if they aren't cut, one field
uncut_on : (done : List (List ℕ)) (f : List ℕ) (is : List Item) → with_items (making done (Some f)) (map joined is) ≡ making done (Some (f ++ bytes_of is))
uncut_on done f [] = ap (λ (x : List ℕ). making done (Some x)) (sym (append-nil f))
uncut_on done f (Byte b ∷ is) = uncut_on done (f ++ b ∷ []) is ∙ ap (λ (x : List ℕ). making done (Some x)) (append_assoc f (b ∷ []) (bytes_of is))
uncut_on done f (Split b ∷ is) = uncut_on done (f ++ b ∷ []) is ∙ ap (λ (x : List ℕ). making done (Some x)) (append_assoc f (b ∷ []) (bytes_of is))
uncut_on done f (Mark ∷ is) = uncut_on done (f ++ []) is ∙ ap (λ (x : List ℕ). making done (Some (x ++ bytes_of is))) (append-nil f)

pub whole_made : (done : List (List ℕ)) (is : List Item) → ended (with_items (with_bytes (whole done) []) (kept true is)) ≡ whole (done ++ bytes_of is ∷ [])
whole_made done is = ap ended (uncut_on done [] is)

pub value_made : (is : List Item) → ended (with_items (with_bytes (whole []) []) (kept true is)) ≡ whole (bytes_of is ∷ [])
value_made is = whole_made [] is

-- how many items aren't marks
pub size-append : (xs ys : List Item) → size (xs ++ ys) ≡ size xs + size ys
size-append [] ys = omega arith
size-append (Byte b ∷ xs) ys = let e = size-append xs ys in omega arith
size-append (Split b ∷ xs) ys = let e = size-append xs ys in omega arith
size-append (Mark ∷ xs) ys = size-append xs ys

pub size-bytes : (bs : List ℕ) → size (map Byte bs) ≡ length bs
size-bytes [] = refl
size-bytes (b ∷ bs) = ap suc (size-bytes bs)

pub size-kept : (uncut : Bool) (is : List Item) → size (kept uncut is) ≡ size is
size-kept false is = refl
size-kept true [] = refl
size-kept true (Byte b ∷ is) = ap suc (size-kept true is)
size-kept true (Split b ∷ is) = ap suc (size-kept true is)
size-kept true (Mark ∷ is) = size-kept true is

item_at : Bool → ℕ → Item
item_at true b = Split b
item_at false b = Byte b

pub size-substituted : (bs : List ℕ) → size (substituted false bs) ≡ length bs
size-substituted [] = refl
size-substituted (b ∷ bs) =
    elim (splits b) as (λ s. size ((if s then Split b else Byte b) ∷ substituted false bs) ≡ suc (length bs)) [ true ↦ ap suc (size-substituted bs) | false ↦ ap suc (size-substituted bs) ]

-- bytes one after another
pub with_items-bytes : (m : Made) (b : ℕ) (bs : List ℕ) → with_items m (map Byte (b ∷ bs)) ≡ with_bytes m (b ∷ bs)
with_items-bytes m b [] = refl
with_items-bytes m b (k ∷ bs) =
    with_items-bytes (with_bytes m (b ∷ [])) k bs ∙ ap (λ (x : List ℕ). making m.done (Some x)) (append_assoc (opened m.begun) (b ∷ []) (k ∷ bs))

pub run-added : (m : Made) (bs : List ℕ) → eqb (length bs) 0 ≡ false → with_bytes m bs ≡ with_items m (map Byte bs)
run-added m [] e = cc
run-added m (b ∷ bs) e = sym (with_items-bytes m b bs)

pub run-empty : (m : Made) (bs : List ℕ) → eqb (length bs) 0 ≡ true → m ≡ with_items m (map Byte bs)
run-empty m [] e = refl
run-empty m (b ∷ bs) e = let h = eqb-true (length (b ∷ bs)) 0 e in absurd (omega arith)

-- what parts of a word are written as
pub plain-items : (known : Known) (bs : List ℕ) → items_of known (map Plain bs) ≡ map Byte bs
plain-items known [] = refl
plain-items known (b ∷ bs) = ap (λ (x : List Item). Byte b ∷ x) (plain-items known bs)

pub quoted-items : (known : Known) (bs : List ℕ) → items_of known (map Quoted bs) ≡ map Byte bs
quoted-items known [] = refl
quoted-items known (b ∷ bs) = ap (λ (x : List Item). Byte b ∷ x) (quoted-items known bs)

pub kept-bytes : (uncut : Bool) (bs : List ℕ) → kept uncut (map Byte bs) ≡ map Byte bs
kept-bytes false bs = refl
kept-bytes true [] = refl
kept-bytes true (b ∷ bs) = ap (λ (x : List Item). Byte b ∷ x) (kept-bytes true bs)

pub kept-append : (uncut : Bool) (xs ys : List Item) → kept uncut (xs ++ ys) ≡ kept uncut xs ++ kept uncut ys
kept-append false xs ys = refl
kept-append true xs ys = map-append joined xs ys

joined-substituted : (quoted : Bool) (bs : List ℕ) → map joined (substituted quoted bs) ≡ map Byte bs
joined-substituted quoted [] = refl
joined-substituted quoted (b ∷ bs) =
    elim (not quoted && splits b) as (λ s. joined (if s then Split b else Byte b) ∷ map joined (substituted quoted bs) ≡ Byte b ∷ map Byte bs) [
      | true ↦ ap (λ (x : List Item). Byte b ∷ x) (joined-substituted quoted bs)
      | false ↦ ap (λ (x : List Item). Byte b ∷ x) (joined-substituted quoted bs)
    ]

pub kept-substituted : (uncut quoted : Bool) (bs : List ℕ) → kept uncut (substituted quoted bs ++ []) ≡ substituted (uncut || quoted) bs
kept-substituted false quoted bs = append-nil (substituted quoted bs)
kept-substituted true quoted bs = ap (map joined) (append-nil (substituted quoted bs)) ∙ joined-substituted quoted bs

-- a text that is cut: up to the first byte that it is cut at, and after it
split-at : (cuts : ℕ → Bool) (xs : List ℕ) (at : ℕ) → at < length xs → ((j : ℕ) → j < at → cuts (get_or xs j 0) ≡ false) → cuts (get_or xs at 0) ≡ true → cut_items cuts xs ≡ map Byte (take at xs) ++ Split (get_or xs at 0) ∷ cut_items cuts (drop (at + 1) xs)
split-at cuts [] at h before here = absurd (omega arith)
split-at cuts (x ∷ xs) zero h before here = rw here refl
split-at cuts (x ∷ xs) (suc n) h before here =
    let no : cuts x ≡ false = before 0 (omega arith) in
    let e : suc n + 1 ≡ suc (n + 1) = omega arith in
    rw (no, e) (ap (λ (ys : List Item). Byte x ∷ ys) (split-at cuts xs n (omega arith) (λ j k. before (suc j) (omega arith)) here))

no-split : (cuts : ℕ → Bool) (xs : List ℕ) → ((j : ℕ) → j < length xs → cuts (get_or xs j 0) ≡ false) → cut_items cuts xs ≡ map Byte xs
no-split cuts [] none = refl
no-split cuts (x ∷ xs) none =
    let no : cuts x ≡ false = none 0 (omega arith) in
    rw no (ap (λ (ys : List Item). Byte x ∷ ys) (no-split cuts xs (λ j k. none (suc j) (omega arith))))

pub cuts-at : (cuts : ℕ → Bool) (xs : List ℕ) (at : ℕ) → IsFirstByte cuts xs (Some at) → CutsAt cuts xs (take at xs) (take (length xs - (at + 1)) (drop (at + 1) xs))
cuts-at cuts xs at found =
    let below = found.0 in
    let back = take_rest xs (at + 1) in
    record {
      blank = get_or xs at 0;
      items = split-at cuts xs at below.high (λ j h. false_from_ne_true _ (below.before j (omega arith) h)) found.1 ∙ ap (λ (ys : List ℕ). map Byte (take at xs) ++ Split (get_or xs at 0) ∷ cut_items cuts ys) (sym back);
      shorter = omega (arith, below.high, ap (λ (ys : List ℕ). length ys) back, length-drop (at + 1) xs);
    }

pub cuts-none : (cuts : ℕ → Bool) (xs : List ℕ) → IsFirstByte cuts xs None → cut_items cuts xs ≡ map Byte xs
cuts-none cuts xs none = no-split cuts xs (λ j h. false_from_ne_true _ (none j (omega arith) h))

-- what is cut off is done, and the rest is left
pub cut-behind : (cuts : ℕ → Bool) (m now after : Made) (text front back : List ℕ) → CutsAt cuts text front back → now ≡ with_items m (map Byte front) → after ≡ ended now → with_items after (cut_items cuts back) ≡ with_items m (cut_items cuts text)
cut-behind cuts m now after text front back is e f =
    ap (λ (n : Made). with_items n (cut_items cuts back)) (f ∙ ap ended e)
    ∙ sym (fold-append with_item m (map Byte front) (Split is.blank ∷ cut_items cuts back))
    ∙ ap (with_items m) (sym is.items)

-- a text that is added, and the limit
pub bytes-over : (bs : List ℕ) (left : ℕ) → left < length bs → left < size (map Byte bs)
bytes-over bs left h = omega (arith, h, size-bytes bs)

pub bytes-within : (bs : List ℕ) (left : ℕ) (a b : Made) → length bs ≤ left → b ≡ with_items a (map Byte bs) → AddsItems (map Byte bs) left a b (Ok (left - length bs))
bytes-within bs left a b h e = (omega (arith, h, size-bytes bs), e)

pub text-over : (quoted : Bool) (bs : List ℕ) (left : ℕ) → quoted ≡ false → left < length bs → left < size (substituted quoted bs)
text-over true bs left q h = cc
text-over false bs left q h = omega (arith, h, size-substituted bs)

pub text-fits : (quoted : Bool) (bs : List ℕ) (left : ℕ) → quoted ≡ false → length bs ≤ left → size (substituted quoted bs) ≤ left
text-fits true bs left e le = absurd (cc)
text-fits false bs left e le = omega (arith, le, size-substituted bs)

pub text-within : (quoted : Bool) (bs : List ℕ) (left : ℕ) (a b : Made) → quoted ≡ false → length bs ≤ left → b ≡ with_items a (substituted false bs) → AddsItems (substituted quoted bs) left a b (Ok (left - length bs))
text-within true bs left a b q h e = absurd (cc)
text-within false bs left a b q h e = (omega (arith, h, size-substituted bs), e)

-- the items of a part
abbrev pub part_items : Bool → Known → List ℕ → Part → List Item
part_items uncut known source p = kept uncut (items_of known (part_atoms source p))

pub plain-part : (uncut : Bool) (known : Known) (source : List ℕ) (p : Part) (span : Span) (bytes : List ℕ) → p ≡ part.Plain span → bytes ≡ span_bytes source span → map Byte bytes ≡ part_items uncut known source p
plain-part uncut known source p span bytes e f =
    ap (map Byte) f ∙ sym (kept-bytes uncut (span_bytes source span)) ∙ ap (kept uncut) (sym (plain-items known (span_bytes source span))) ∙ ap (part_items uncut known source) (sym e)

pub quoted-part : (uncut : Bool) (known : Known) (source : List ℕ) (p : Part) (span : Span) (bytes : List ℕ) → p ≡ part.Quoted span → bytes ≡ span_bytes source span → map Byte bytes ≡ part_items uncut known source p
quoted-part uncut known source p span bytes e f =
    ap (map Byte) f ∙ sym (kept-bytes uncut (span_bytes source span)) ∙ ap (kept uncut) (sym (quoted-items known (span_bytes source span))) ∙ ap (part_items uncut known source) (sym e)

pub value-part : (uncut quoted : Bool) (known : Known) (source : List ℕ) (p : Part) (span : Span) (name value : List ℕ) → p ≡ part.Value span quoted → name ≡ span_bytes source span → value ≡ value_in known name → substituted (uncut || quoted) value ≡ part_items uncut known source p
value-part uncut quoted known source p span name value e f g =
    ap (substituted (uncut || quoted)) (g ∙ ap (value_in known) f) ∙ sym (kept-substituted uncut quoted (value_in known (span_bytes source span))) ∙ ap (part_items uncut known source) (sym e)

pub status-part : (uncut quoted : Bool) (known : Known) (source : List ℕ) (p : Part) (digits : List ℕ) → p ≡ part.Status quoted → digits ≡ decimal known.status → substituted (uncut || quoted) digits ≡ part_items uncut known source p
status-part uncut quoted known source p digits e f =
    ap (substituted (uncut || quoted)) f ∙ sym (kept-substituted uncut quoted (decimal known.status)) ∙ ap (part_items uncut known source) (sym e)

-- the items of a part, and those after it
rest-items : (uncut : Bool) (known : Known) (source : List ℕ) (p : Part) (atoms rest : List Atom) → atoms ≡ part_atoms source p ++ rest → kept uncut (items_of known atoms) ≡ part_items uncut known source p ++ kept uncut (items_of known rest)
rest-items uncut known source p atoms rest e =
    ap (λ (xs : List Atom). kept uncut (items_of known xs)) e
    ∙ ap (kept uncut) (flat_map-append (atom_items known) (part_atoms source p) rest)
    ∙ kept-append uncut (items_of known (part_atoms source p)) (items_of known rest)

pub next-part : (uncut : Bool) (known : Known) (source : List ℕ) (p : Part) (atoms rest : List Atom) (done whole : List Item) → atoms ≡ part_atoms source p ++ rest → done ++ kept uncut (items_of known atoms) ≡ whole → (done ++ part_items uncut known source p) ++ kept uncut (items_of known rest) ≡ whole
next-part uncut known source p atoms rest done whole e read =
    append_assoc done (part_items uncut known source p) (kept uncut (items_of known rest))
    ∙ ap (λ (xs : List Item). done ++ xs) (sym (rest-items uncut known source p atoms rest e)) ∙ read

pub no-part : (uncut : Bool) (known : Known) (atoms : List Atom) (done whole : List Item) → atoms ≡ [] → done ++ kept uncut (items_of known atoms) ≡ whole → done ≡ whole
no-part true known atoms done whole e read = sym (append-nil done) ∙ ap (λ (xs : List Atom). done ++ kept true (items_of known xs)) (sym e) ∙ read
no-part false known atoms done whole e read = sym (append-nil done) ∙ ap (λ (xs : List Atom). done ++ kept false (items_of known xs)) (sym e) ∙ read

-- what was added, and what is added after it
pub adds-then : (xs ys : List Item) (left mid : ℕ) (a b c : Made) (r : Result ℕ ExpansionFault) → AddsItems xs left a b (Ok mid) → AddsPart ys mid b c r → AddsItems (xs ++ ys) left a c r
adds-then xs ys left mid a b c (Ok rest) f g =
    (omega (arith, f.0, g.0, size-append xs ys), g.1 ∙ ap (λ (m : Made). with_items m ys) f.1 ∙ sym (fold-append with_item a xs ys))
adds-then xs ys left mid a b c (Err Word) f g = omega (arith, f.0, g, size-append xs ys)
adds-then xs ys left mid a b c (Err Memory) f g = tt

-- what is too much already
pub adds-front : (xs ys : List Item) (left : ℕ) (a b : Made) (f : ExpansionFault) → AddsItems xs left a b (Err f) → AddsItems (xs ++ ys) left a b (Err f)
adds-front xs ys left a b Word h = omega (arith, h, size-append xs ys)
adds-front xs ys left a b Memory h = tt

pub adds-nothing : (left : ℕ) (a : Made) → AddsItems [] left a a (Ok left)
adds-nothing left a = (omega arith, refl)

pub part-refused : (xs ys zs whole : List Item) (left mid : ℕ) (a b c : Made) (f : ExpansionFault) → AddsItems xs left a b (Ok mid) → AddsPart ys mid b c (Err f) → (xs ++ ys) ++ zs ≡ whole → AddsItems whole left a c (Err f)
part-refused xs ys zs whole left mid a b c f g h e =
    subst (λ (is : List Item). AddsItems is left a c (Err f)) e (adds-front (xs ++ ys) zs left a c f (adds-then xs ys left mid a b c (Err f) g h))
