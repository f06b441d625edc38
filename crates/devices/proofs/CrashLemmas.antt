-- What a crash leaves of each copy, and of all other bytes.
use Rattle.std.proofs.Common.{◌≡◌, ◌⊎◌, inl, inr, ℕ, ◌+◌, ◌-◌, ◌≤◌, List, [], ◌∷◌, length, take, drop, sym, ◌∙◌, ap, subst, arith}
use Rattle.std.proofs.lemmas.List.{drop-drop, drop-take, take-take}
use Rattle.devices.specs.declared.writing.Change.{Change}
use Rattle.devices.specs.Device.{Torn}
use Rattle.devices.specs.Changes.{AreAsRead, after, OneAtATime, KeepLength, AreInside, IsApartFrom, AreApart}
use Rattle.devices.specs.Laws.{IsOneTorn, IsClearOf}
use Rattle.devices.proofs.ChangeLemmas.{after_apart, keeps_read, shows_after, length-after, found_inside, swapped}

torn_apart : (at m : ℕ) (device left : List ℕ) (p n : ℕ) → Torn at m device left → (at + m ≤ p) ⊎ (p + n ≤ at) → take n (drop p left) ≡ take n (drop p device)
torn_apart at m device left p n torn (inl past) =
    let sum : (at + m) + (p - (at + m)) ≡ p = omega (arith, past) in
    ap (λ (k : ℕ). take n (drop k left)) (sym sum)
    ∙ ap (λ l. take n l) (sym (drop-drop (p - (at + m)) (at + m) left) ∙ ap (λ l. drop (p - (at + m)) l) torn.after ∙ drop-drop (p - (at + m)) (at + m) device)
    ∙ ap (λ (k : ℕ). take n (drop k device)) sum
torn_apart at m device left p n torn (inr before) =
    sym (drop-take p n left)
    ∙ ap (λ l. drop p l) (sym (take-take (p + n) at left before) ∙ ap (λ l. take (p + n) l) torn.before ∙ take-take (p + n) at device before)
    ∙ drop-take p n device

pub elsewhere : (changes : List Change) (device left : List ℕ) (p n : ℕ) → AreInside changes (length device) → IsClearOf p n changes → OneAtATime changes device left → take n (drop p left) ≡ take n (drop p device)
elsewhere [] device left p n inside clear is = ap (λ l. take n (drop p l)) is
elsewhere (x ∷ xs) device left p n inside clear (inl writing) = torn_apart x.at (length x.to_write.now) device left p n writing.1 clear.0
elsewhere (x ∷ xs) device left p n inside clear (inr done) =
    elsewhere xs (after x device) left p n (subst (λ s. AreInside xs s) (sym (length-after x device inside.0)) inside.1) clear.1 done
    ∙ after_apart x device p n inside.0 clear.0

clear_of : (one : Change) (others : List Change) → IsApartFrom one others → IsClearOf one.at (length one.to_write.now) others
clear_of one [] apart = tt
clear_of one (x ∷ xs) apart = (swapped apart.0, clear_of one xs apart.1)

torn_reads : (one : Change) (others : List Change) (device left : List ℕ) → KeepLength others → IsApartFrom one others → Torn one.at (length one.to_write.now) device left → AreAsRead others device → AreAsRead others left
torn_reads one [] device left keep apart torn all = tt
torn_reads one (x ∷ xs) device left keep apart torn all = (
  torn_apart one.at (length one.to_write.now) device left x.at (length x.as_read.now) torn (subst (λ n. (one.at + length one.to_write.now ≤ x.at) ⊎ (x.at + n ≤ one.at)) keep.0 apart.0) ∙ all.0,
  torn_reads one xs device left keep.1 apart.1 torn all.1,
)

one_torn : (changes : List Change) (device left : List ℕ) → AreInside changes (length device) → KeepLength changes → AreApart changes → AreAsRead changes device → OneAtATime changes device left → IsOneTorn changes left
one_torn [] device left inside keep apart found left_is = tt
one_torn (x ∷ xs) device left inside keep apart found (inl writing) = inl (torn_reads x xs device left keep.1 apart.0 writing.1 found.1)
one_torn (x ∷ xs) device left inside keep apart found (inr done) =
    let rest = subst (λ s. AreInside xs s) (sym (length-after x device inside.0)) inside.1 in
    inr (
      elsewhere xs (after x device) left x.at (length x.to_write.now) rest (clear_of x xs apart.0) done ∙ shows_after x device inside.0 found.0,
      one_torn xs (after x device) left rest keep.1 apart.1 (keeps_read x xs device apart.0 keep.1 inside.0 found.1) done,
    )

pub one_copy_torn : (changes : List Change) (device left : List ℕ) → KeepLength changes → AreApart changes → AreAsRead changes device → OneAtATime changes device left → IsOneTorn changes left
one_copy_torn changes device left keep apart found is = one_torn changes device left (found_inside changes device found keep) keep apart found is

pub no_other_byte : (changes : List Change) (device left : List ℕ) (at n : ℕ) → KeepLength changes → AreAsRead changes device → IsClearOf at n changes → OneAtATime changes device left → take n (drop at left) ≡ take n (drop at device)
no_other_byte changes device left at n keep found clear is = elsewhere changes device left at n (found_inside changes device found keep) clear is
