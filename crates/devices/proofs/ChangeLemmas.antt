-- What copies that are written leave.
use Rattle.std.proofs.Common.{Result, Ok, Err, OnOk, ◌≡◌, ◌⊎◌, inl, inr, ℕ, zero, suc, ◌+◌, ◌-◌, ◌≤◌, ◌<◌, List, [], ◌∷◌, ◌++◌, length, get_or, take, drop, Bool, true, false, if◌then◌else◌, Option, Some, None, refl, sym, ◌∙◌, ap, subst, arith, append_assoc, length-append, length-drop, length-take, take-append-drop}
use Rattle.std.proofs.lemmas.List.{take_at, drop_at, take_all, drop-drop, take_more, drop_more, take-append-le, length-take-le, take-take, drop-take}
use Rattle.std.specs.Str.{bytes_eq}
use Rattle.std.proofs.lemmas.Slice.Eq.{bytes_eq-Decides}
use Rattle.devices.specs.declared.writing.Change.{Change}
use Rattle.devices.specs.Device.{put, Torn, Only, Follows}
use Rattle.devices.specs.Memory.{written_of}
use Rattle.devices.specs.Changes.{is_same, Shows, AreAsRead, AreWritten, after, after_all, OneAtATime, KeepLength, IsInside, AreInside, IsApartFrom, AreApart}

-- the bytes that are there are torn too
pub torn_none : (at n : ℕ) (device : List ℕ) → Torn at n device device
torn_none at n device = record { before = refl; after = refl; same_length = refl }

-- what a write may leave, of what is durable
pub torn_crash : (at n : ℕ) (device : List ℕ) (old new : List ℕ → Type 0) → Only device old → Follows (Torn at n) old new → (c : List ℕ) → new c → Torn at n device c
torn_crash at n device old new only follows c left =
    let from = follows c left in
    subst (λ d. Torn at n d c) (only from.0 from.1) from.2

pub length-put : (at : ℕ) (bytes device : List ℕ) → at + length bytes ≤ length device → length (put at bytes device) ≡ length device
length-put at bytes device le =
    omega (arith, length-append (take at device ++ bytes) (drop (at + length bytes) device), length-append (take at device) bytes, length-take-le at device (omega (arith, le)), length-drop (at + length bytes) device)

by_test : {T : Type 0} (b : Bool) (x y : T) → b ≡ false → (if b then x else y) ≡ y
by_test b x y is = ap (λ v. if v then x else y) is

by_test_true : {T : Type 0} (b : Bool) (x y : T) → b ≡ true → (if b then x else y) ≡ x
by_test_true b x y is = ap (λ v. if v then x else y) is

pub after_same : (change : Change) (device : List ℕ) → is_same change ≡ true → after change device ≡ device
after_same change device is = by_test_true (is_same change) device (put change.at change.to_write.now device) is

pub after_changed : (change : Change) (device : List ℕ) → is_same change ≡ false → after change device ≡ put change.at change.to_write.now device
after_changed change device is = by_test (is_same change) device (put change.at change.to_write.now device) is

pub both : (b : Bool) → (b ≡ true) ⊎ (b ≡ false)
both true = inl refl
both false = inr refl

pub length-after : (change : Change) (device : List ℕ) → (is_same change ≡ false → IsInside change (length device)) → length (after change device) ≡ length device
length-after change device inside = elim (both (is_same change)) [
  | inl same ↦ ap length (after_same change device same)
  | inr differs ↦ ap length (after_changed change device differs) ∙ length-put change.at change.to_write.now device (inside differs)
]

-- what is there at first is among what a crash may leave
pub starts : (changes : List Change) (device c : List ℕ) → c ≡ device → OneAtATime changes device c
starts [] device c is = is
starts (change ∷ changes) device c is = elim (both (is_same change)) [
  | inl same ↦ inr (starts changes (after change device) c (is ∙ sym (after_same change device same)))
  | inr differs ↦ inl (differs, subst (λ d. Torn change.at (length change.to_write.now) device d) (sym is) (torn_none change.at (length change.to_write.now) device))
]

at_place : (xs : List Change) (change : Change) (ys : List Change) (device c : List ℕ) → OneAtATime (change ∷ []) (after_all xs device) c → OneAtATime (xs ++ change ∷ ys) device c
at_place [] change ys device c (inl writing) = inl writing
at_place [] change ys device c (inr done) = inr (starts ys (after change device) c done)
at_place (x ∷ xs) change ys device c left = inr (at_place xs change ys (after x device) c left)

split_at : (changes : List Change) (k : ℕ) (d : Change) → k < length changes → take k changes ++ get_or changes k d ∷ drop (k + 1) changes ≡ changes
split_at changes k d lt = ap (λ (l : List Change). take k changes ++ l) (sym (drop_more changes k d lt)) ∙ take-append-drop k changes

-- the step of one copy is one of the steps of all
pub at_step : (changes : List Change) (k : ℕ) (d change : Change) (device c : List ℕ) → k < length changes → change ≡ get_or changes k d → OneAtATime (change ∷ []) (after_all (take k changes) device) c → OneAtATime changes device c
at_step changes k d change device c lt is left =
    subst (λ l. OneAtATime l device c) (split_at changes k d lt) (at_place (take k changes) (get_or changes k d) (drop (k + 1) changes) device c (subst (λ h. OneAtATime (h ∷ []) (after_all (take k changes) device) c) is left))

after_all-append : (xs ys : List Change) (device : List ℕ) → after_all (xs ++ ys) device ≡ after_all ys (after_all xs device)
after_all-append [] ys device = refl
after_all-append (x ∷ xs) ys device = after_all-append xs ys (after x device)

pub after_more : (changes : List Change) (k : ℕ) (d change : Change) (device : List ℕ) → k < length changes → change ≡ get_or changes k d → after_all (take (k + 1) changes) device ≡ after change (after_all (take k changes) device)
after_more changes k d change device lt is =
    ap (λ l. after_all l device) (take_more changes k d lt) ∙ after_all-append (take k changes) (get_or changes k d ∷ []) device ∙ ap (λ h. after h (after_all (take k changes) device)) (sym is)

pub inside_at : (changes : List Change) (size k : ℕ) (d : Change) → AreInside changes size → k < length changes → is_same (get_or changes k d) ≡ false → IsInside (get_or changes k d) size
inside_at [] size k d all lt = absurd (omega arith)
inside_at (x ∷ xs) size zero d all lt = all.0
inside_at (x ∷ xs) size (suc k) d all lt = inside_at xs size k d all.1 (omega arith)

pub length-after_all : (changes : List Change) (device : List ℕ) → AreInside changes (length device) → length (after_all changes device) ≡ length device
length-after_all [] device all = refl
length-after_all (x ∷ xs) device all =
    let same = length-after x device all.0 in
    length-after_all xs (after x device) (subst (λ n. AreInside xs n) (sym same) all.1) ∙ same

inside_front : (xs ys : List Change) (size : ℕ) → AreInside (xs ++ ys) size → AreInside xs size
inside_front [] ys size all = tt
inside_front (x ∷ xs) ys size all = (all.0, inside_front xs ys size all.1)

pub length-after_front : (changes : List Change) (k : ℕ) (device : List ℕ) → AreInside changes (length device) → length (after_all (take k changes) device) ≡ length device
length-after_front changes k device all =
    length-after_all (take k changes) device (inside_front (take k changes) (drop k changes) (length device) (subst (λ l. AreInside l (length device)) (sym (take-append-drop k changes)) all))

-- a copy that is there as it was read and is to change lies inside
differ : (at : ℕ) (r w device : List ℕ) → Shows device at r → length w ≡ length r → bytes_eq r w ≡ false → at + length w ≤ length device
differ at [] [] device shows same is = absurd (cc)
differ at [] (y ∷ w) device shows same is = absurd (omega arith)
differ at (x ∷ r) w device shows same is = omega (arith, ap length shows, length-take (length (x ∷ r)) (drop at device), length-drop at device)

pub found_inside : (changes : List Change) (device : List ℕ) → AreAsRead changes device → KeepLength changes → AreInside changes (length device)
found_inside [] device found keep = tt
found_inside (x ∷ xs) device found keep = (differ x.at x.as_read.now x.to_write.now device found.0 keep.0, found_inside xs device found.1 keep.1)

read-append : (xs : List Change) (change : Change) (device : List ℕ) → AreAsRead xs device → Shows device change.at change.as_read.now → AreAsRead (xs ++ change ∷ []) device
read-append [] change device all here = (here, tt)
read-append (x ∷ xs) change device all here = (all.0, read-append xs change device all.1 here)

pub read_more : (changes : List Change) (k : ℕ) (d change : Change) (device : List ℕ) → k < length changes → change ≡ get_or changes k d → AreAsRead (take k changes) device → Shows device change.at change.as_read.now → AreAsRead (take (k + 1) changes) device
read_more changes k d change device lt is all here =
    subst (λ l. AreAsRead l device) (sym (take_more changes k d lt)) (read-append (take k changes) (get_or changes k d) device all (subst (λ h. Shows device h.at h.as_read.now) is here))

read_within : (changes : List Change) (k : ℕ) (d : Change) (device : List ℕ) → k < length changes → AreAsRead changes device → Shows device (get_or changes k d).at (get_or changes k d).as_read.now
read_within [] k d device lt all = absurd (omega arith)
read_within (x ∷ xs) zero d device lt all = all.0
read_within (x ∷ xs) (suc k) d device lt all = read_within xs k d device (omega arith) all.1

pub read_here : (changes : List Change) (k : ℕ) (d change : Change) (device : List ℕ) → k < length changes → change ≡ get_or changes k d → AreAsRead changes device → Shows device change.at change.as_read.now
read_here changes k d change device lt is all = subst (λ h. Shows device h.at h.as_read.now) (sym is) (read_within changes k d device lt all)

pub inside_here : (changes : List Change) (size k : ℕ) (d change : Change) → AreInside changes size → k < length changes → change ≡ get_or changes k d → is_same change ≡ false → IsInside change size
inside_here changes size k d change all lt is = subst (λ h. is_same h ≡ false → IsInside h size) (sym is) (inside_at changes size k d all lt)

pub read_all : (changes : List Change) (k : ℕ) (device : List ℕ) → length changes ≤ k → AreAsRead (take k changes) device → AreAsRead changes device
read_all changes k device le all = subst (λ l. AreAsRead l device) (take_all k changes le) all

pub after_end : (changes : List Change) (k : ℕ) (device : List ℕ) → length changes ≤ k → after_all (take k changes) device ≡ after_all changes device
after_end changes k device le = ap (λ l. after_all l device) (take_all k changes le)

-- what a `[Change]` gives past its end
abbrev pub nothing : Change
nothing = record { at = 0; as_read = record { ref_ptr = (0, 0); now = [] }; to_write = record { ref_ptr = (0, 0); now = [] } }

pub on_ok : {T E : Type 0} {A B : Type 0} (r : Result T E) → OnOk r A → (A → B) → OnOk r B
on_ok (Ok x) a f = f a
on_ok (Err e) a f = tt

shows_put : (at : ℕ) (bytes device : List ℕ) → at + length bytes ≤ length device → Shows (put at bytes device) at bytes
shows_put at bytes device le =
    let rest = drop (at + length bytes) device in
    ap (λ l. take (length bytes) (drop at l)) (append_assoc (take at device) bytes rest)
    ∙ ap (λ l. take (length bytes) l) (drop_at (take at device) (bytes ++ rest) at (length-take-le at device (omega (arith, le))))
    ∙ take_at bytes rest (length bytes) refl

drop_past : (xs ys : List ℕ) (p n : ℕ) → length xs + n ≡ p → drop p (xs ++ ys) ≡ drop n ys
drop_past [] ys p n is = let e : p ≡ n = omega (arith, is) in ap (λ (k : ℕ). drop k ys) e
drop_past (x ∷ xs) ys zero n is = absurd (omega arith)
drop_past (x ∷ xs) ys (suc p) n is = drop_past xs ys p n (omega arith)

behind : (at : ℕ) (bytes device : List ℕ) (p : ℕ) → at + length bytes ≤ length device → at + length bytes ≤ p → drop p (put at bytes device) ≡ drop p device
behind at bytes device p le past =
    let front = take at device ++ bytes in
    let long : length front ≡ at + length bytes = omega (arith, length-append (take at device) bytes, length-take-le at device (omega (arith, le))) in
    let m = p - (at + length bytes) in
    let sum : (at + length bytes) + m ≡ p = omega (arith, past) in
    drop_past front (drop (at + length bytes) device) p m (omega (arith, long, past))
    ∙ drop-drop m (at + length bytes) device
    ∙ ap (λ (k : ℕ). drop k device) sum

ahead : (at : ℕ) (bytes device : List ℕ) (p n : ℕ) → at + length bytes ≤ length device → p + n ≤ at → take n (drop p (put at bytes device)) ≡ take n (drop p device)
ahead at bytes device p n le before =
    let rest = drop (at + length bytes) device in
    let long : length (take at device) ≡ at = length-take-le at device (omega (arith, le)) in
    sym (drop-take p n (put at bytes device))
    ∙ ap (λ l. drop p (take (p + n) l)) (append_assoc (take at device) bytes rest)
    ∙ ap (λ l. drop p l) (take-append-le (p + n) (take at device) (bytes ++ rest) (omega (arith, long, before)) ∙ take-take (p + n) at device before)
    ∙ drop-take p n device

put_apart : (at : ℕ) (bytes device : List ℕ) (p n : ℕ) → at + length bytes ≤ length device → (at + length bytes ≤ p) ⊎ (p + n ≤ at) → take n (drop p (put at bytes device)) ≡ take n (drop p device)
put_apart at bytes device p n le (inl past) = ap (λ l. take n l) (behind at bytes device p le past)
put_apart at bytes device p n le (inr before) = ahead at bytes device p n le before

-- a place that another copy leaves alone
pub after_apart : (change : Change) (device : List ℕ) (p n : ℕ) → (is_same change ≡ false → IsInside change (length device)) → (change.at + length change.to_write.now ≤ p) ⊎ (p + n ≤ change.at) → take n (drop p (after change device)) ≡ take n (drop p device)
after_apart change device p n inside apart = elim (both (is_same change)) [
  | inl same ↦ ap (λ l. take n (drop p l)) (after_same change device same)
  | inr differs ↦ ap (λ l. take n (drop p l)) (after_changed change device differs) ∙ put_apart change.at change.to_write.now device p n (inside differs) apart
]

pub swapped : {A B : Type 0} → A ⊎ B → B ⊎ A
swapped (inl a) = inr a
swapped (inr b) = inl b

pub keeps_shown : (one : Change) (others : List Change) (device : List ℕ) → IsApartFrom one others → AreInside others (length device) → Shows device one.at one.to_write.now → Shows (after_all others device) one.at one.to_write.now
keeps_shown one [] device apart inside here = here
keeps_shown one (x ∷ xs) device apart inside here =
    keeps_shown one xs (after x device) apart.1 (subst (λ n. AreInside xs n) (sym (length-after x device inside.0)) inside.1)
    (after_apart x device one.at (length one.to_write.now) inside.0 (swapped apart.0) ∙ here)

pub keeps_read : (one : Change) (others : List Change) (device : List ℕ) → IsApartFrom one others → KeepLength others → (is_same one ≡ false → IsInside one (length device)) → AreAsRead others device → AreAsRead others (after one device)
keeps_read one [] device apart keep inside all = tt
keeps_read one (x ∷ xs) device apart keep inside all = (
  after_apart one device x.at (length x.as_read.now) inside (subst (λ n. (one.at + length one.to_write.now ≤ x.at) ⊎ (x.at + n ≤ one.at)) keep.0 apart.0) ∙ all.0,
  keeps_read one xs device apart.1 keep.1 inside all.1,
)

pub shows_after : (change : Change) (device : List ℕ) → (is_same change ≡ false → IsInside change (length device)) → Shows device change.at change.as_read.now → Shows (after change device) change.at change.to_write.now
shows_after change device inside here = elim (both (is_same change)) [
  | inl same ↦
      let alike : change.as_read.now ≡ change.to_write.now = (bytes_eq-Decides change.as_read.now change.to_write.now).0 same in
      subst (λ l. Shows (after change device) change.at l) alike (subst (λ l. Shows l change.at change.as_read.now) (sym (after_same change device same)) here)
  | inr differs ↦ subst (λ l. Shows l change.at change.to_write.now) (sym (after_changed change device differs)) (shows_put change.at change.to_write.now device (inside differs))
]

-- in the end each copy is there as it was to be
pub all_written : (changes : List Change) (device : List ℕ) → KeepLength changes → AreInside changes (length device) → AreAsRead changes device → AreApart changes → AreWritten changes (after_all changes device)
all_written [] device keep inside found apart = tt
all_written (x ∷ xs) device keep inside found apart =
    let rest = subst (λ n. AreInside xs n) (sym (length-after x device inside.0)) inside.1 in (
      keeps_shown x xs (after x device) apart.0 rest (shows_after x device inside.0 found.0),
      all_written xs (after x device) keep.1 rest (keeps_read x xs device apart.0 keep.1 inside.0 found.1) apart.1,
    )

-- so is what is there in the end
pub ends : (changes : List Change) (device c : List ℕ) → c ≡ after_all changes device → OneAtATime changes device c
ends [] device c is = is
ends (x ∷ xs) device c is = inr (ends xs (after x device) c is)

-- what is left of a write that is cut: its first bytes in the place of those that were there
pub torn_front : (k : Option ℕ) (at : ℕ) (bytes device left : List ℕ) → at + length bytes ≤ length device → left ≡ put at (written_of k bytes) device → Torn at (length bytes) device left
torn_front k at bytes device left le is =
    let front = written_of k bytes in
    let short : length front ≤ length bytes = no_longer k bytes in
    let inside : at + length front ≤ length device = omega (arith, short, le) in
    record {
      before = ap (λ l. take at l) is ∙ ahead at front device 0 at inside (omega arith);
      after = ap (λ l. drop (at + length bytes) l) is ∙ behind at front device (at + length bytes) inside (omega (arith, short));
      same_length = ap length is ∙ length-put at front device inside;
    }
  where
    no_longer : (k : Option ℕ) (bytes : List ℕ) → length (written_of k bytes) ≤ length bytes
    no_longer None bytes = omega arith
    no_longer (Some k) bytes = omega (arith, length-take k bytes)
