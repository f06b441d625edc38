-- What a `$` begins, by the byte after it, as the code tells them apart.
use Rattle.std.specs.Prelude.{◌≡◌, ℕ, suc, ◌+◌, ◌-◌, ◌<◌, ◌≤◌, ◌==◌, Bool, true, false, List, [], ◌∷◌, length, take, drop, Option, Some, None}
use Rattle.std.specs.Option.{option_map}
use Rattle.std.proofs.Common.{refl, sym, ◌∙◌, ap, subst, arith, get_or, length-take, length-drop, inl, inr}
use Rattle.std.proofs.Math.Seq.{drop-cons}
use Rattle.std.proofs.lemmas.Bool.{eqb-true, ne_eqb, cases_lt, or_left, both_ways}
use Rattle.std.proofs.lemmas.List.{drop_all}
use Rattle.hush_words.specs.Words.{Atom, Dollar, byte_atom, dollar_atom, begins_name, is_in_name, is_in_braces, follows_dollar}
use Rattle.hush_words.specs.Words.Atom.{Value, Status}
use Rattle.hush_words.specs.Words.Dollar.{Name, Braces, LastStatus, Alone}
use Rattle.hush_words.specs.Reading.{Found, found, front, behind, braces, dollar_at}
use Rattle.hush_words.specs.Parts.{part_atoms}
use Rattle.hush_words.specs.Steps.{begins, StandsAt, IsRun, dollar_read, ReadsByte, ReadsBraces, ReadsDollar}
use Rattle.hush_words.specs.declared.reads.PartRead.{PartRead}

pub begins-here : (byte : ℕ) (xs : List ℕ) (at : ℕ) → begins byte (drop at xs) ≡ true → StandsAt xs at byte
begins-here byte xs at e =
    elim (cases_lt at (length xs)) [
      | inl lt ↦
          let next : at + 1 ≡ suc at = omega arith in
          let here : drop at xs ≡ get_or xs at 0 ∷ drop (at + 1) xs = drop-cons xs at 0 lt ∙ ap (λ n. get_or xs at 0 ∷ drop n xs) (sym next) in
          let same : get_or xs at 0 ≡ byte = eqb-true (get_or xs at 0) byte (ap (begins byte) (sym here) ∙ e) in
          (lt, here ∙ ap (λ b. b ∷ drop (at + 1) xs) same)
      | inr ge ↦ absurd (both_ways false refl (ap (begins byte) (sym (drop_all at xs ge)) ∙ e))
    ]

pub read-found : (quoted : Bool) (o : Found Dollar) (d : Dollar) (r rest : List ℕ) (atoms : List Atom) → o ≡ found d r →
    dollar_atom quoted d ∷ [] ≡ atoms → r ≡ rest → option_map (dollar_read quoted) o ≡ Some (atoms, rest)
read-found quoted o d r rest atoms e f g =
    ap (λ x. option_map (dollar_read quoted) x) e ∙ ap (λ a. Some (a, r)) f ∙ ap (λ a. Some (atoms, a)) g

pub in_name : (b : ℕ) → begins_name b ≡ true → is_in_name b ≡ true
unfolding is_in_name
in_name b e = or_left (begins_name b) _ e

behind-name : (b : ℕ) (bs : List ℕ) → begins_name b ≡ true →
    dollar_at (b ∷ bs) ≡ found (Name (front is_in_name (b ∷ bs))) (behind is_in_name (b ∷ bs))
unfolding dollar_at
behind-name b bs e =
    let f : is_in_name b ≡ true = in_name b e in rw (e, f) refl

pub read-name : (source : List ℕ) (start end b : ℕ) (quoted : Bool) → StandsAt source start b → begins_name b ≡ true →
    IsRun is_in_name source start end →
    option_map (dollar_read quoted) (dollar_at (drop start source)) ≡ Some (Value (take (end - start) (drop start source)) quoted ∷ [], drop end source)
read-name source start end b quoted here e run =
    read-found quoted (dollar_at (drop start source)) (Name (front is_in_name (drop start source))) (behind is_in_name (drop start source)) _ _
    (subst (λ l. dollar_at l ≡ found (Name (front is_in_name l)) (behind is_in_name l)) (sym here.1) (behind-name b (drop (start + 1) source) e))
    (ap (λ n. Value n quoted ∷ []) (sym run.2)) (sym run.3)

whole-braces : (n r : List ℕ) → 1 ≤ length n → braces n (125 ∷ r) ≡ found (Braces n) r
whole-braces [] r e = absurd (omega arith)
whole-braces (b ∷ bs) r e = refl

pub read-braces : (source : List ℕ) (start end : ℕ) (quoted : Bool) → start < end → IsRun is_in_braces source start end →
    begins 125 (drop end source) ≡ true →
    option_map (dollar_read quoted) (braces (front is_in_braces (drop start source)) (behind is_in_braces (drop start source))) ≡
    Some (Value (take (end - start) (drop start source)) quoted ∷ [], drop (end + 1) source)
read-braces source start end quoted some run e =
    let n : List ℕ = front is_in_braces (drop start source) in
    let closes : StandsAt source end 125 = begins-here 125 source end e in
    let rest : behind is_in_braces (drop start source) ≡ 125 ∷ drop (end + 1) source = sym run.3 ∙ closes.1 in
    let long : 1 ≤ length n = omega (arith, ap length run.2, length-take (end - start) (drop start source), length-drop start source, run.1) in
    read-found quoted (braces n (behind is_in_braces (drop start source))) (Braces n) (drop (end + 1) source) _ _
    (ap (λ l. braces n l) rest ∙ whole-braces n (drop (end + 1) source) long)
    (ap (λ k. Value k quoted ∷ []) (sym run.2)) refl

pub behind-braces : (bs : List ℕ) → dollar_at (123 ∷ bs) ≡ braces (front is_in_braces bs) (behind is_in_braces bs)
unfolding dollar_at begins_name
behind-braces bs = refl

pub behind-status : (bs : List ℕ) → dollar_at (63 ∷ bs) ≡ found LastStatus bs
unfolding dollar_at begins_name
behind-status bs = refl

pub behind-bad : (b : ℕ) (bs : List ℕ) → begins_name b ≡ false → (b ≡ 123 → ⊥) → (b ≡ 63 → ⊥) → follows_dollar b ≡ true →
    dollar_at (b ∷ bs) ≡ None
unfolding dollar_at
behind-bad b bs e f g h =
    let f' : (b == 123) ≡ false = ne_eqb b 123 f in
    let g' : (b == 63) ≡ false = ne_eqb b 63 g in rw (e, f', g', h) refl

pub behind-alone : (b : ℕ) (bs : List ℕ) → begins_name b ≡ false → (b ≡ 123 → ⊥) → (b ≡ 63 → ⊥) → follows_dollar b ≡ false →
    dollar_at (b ∷ bs) ≡ found Alone (b ∷ bs)
unfolding dollar_at
behind-alone b bs e f g h =
    let f' : (b == 123) ≡ false = ne_eqb b 123 f in
    let g' : (b == 63) ≡ false = ne_eqb b 63 g in rw (e, f', g', h) refl

pub behind-end : dollar_at [] ≡ found Alone []
unfolding dollar_at
behind-end = refl

alone-atom : (quoted : Bool) → dollar_atom quoted Alone ≡ byte_atom quoted 36
alone-atom true = refl
alone-atom false = refl

-- a `$` that stands for itself, once it is known that it does
pub read-alone : (source : List ℕ) (place : ℕ) (quoted : Bool) (r : PartRead) → StandsAt source place 36 → ReadsByte place quoted r →
    dollar_at (drop (place + 1) source) ≡ found Alone (drop (place + 1) source) →
    (place + 1 ≤ r.end) × (r.end ≤ length source) ×
    (option_map (dollar_read quoted) (dollar_at (drop (place + 1) source)) ≡ Some (part_atoms source r.part, drop r.end source))
read-alone source place quoted r here byte e =
    let end : r.end ≡ place + 1 = byte.0 in
    let low : place < length source = here.0 in (
      omega arith,
      omega arith,
      read-found quoted (dollar_at (drop (place + 1) source)) Alone (drop (place + 1) source) (drop r.end source) (part_atoms source r.part) e
          (ap (λ a. a ∷ []) (alone-atom quoted) ∙ sym (byte.1 source 36 here)) (ap (λ n. drop n source) (sym end)),
    )

pub read-status : (source : List ℕ) (start : ℕ) (quoted : Bool) → StandsAt source start 63 →
    option_map (dollar_read quoted) (dollar_at (drop start source)) ≡ Some (Status quoted ∷ [], drop (start + 1) source)
read-status source start quoted here =
    read-found quoted (dollar_at (drop start source)) LastStatus (drop (start + 1) source) (drop (start + 1) source) (Status quoted ∷ [])
    (ap dollar_at here.1 ∙ behind-status (drop (start + 1) source)) refl refl

pub braces-there : (source : List ℕ) (start : ℕ) (quoted : Bool) (b : ℕ) (r : Option PartRead) → StandsAt source start b → b ≡ 123 →
    ReadsBraces source (start + 1) quoted r → ReadsDollar source start quoted r
braces-there source start quoted b None here same reads =
    ap dollar_at (here.1 ∙ ap (λ k. k ∷ drop (start + 1) source) same) ∙ behind-braces (drop (start + 1) source) ∙ reads
braces-there source start quoted b (Some r) here same reads = (
  omega (arith, reads.0),
  reads.1,
  ap (λ l. option_map (dollar_read quoted) (dollar_at l)) (here.1 ∙ ap (λ k. k ∷ drop (start + 1) source) same)
      ∙ ap (λ o. option_map (dollar_read quoted) o) (behind-braces (drop (start + 1) source)) ∙ reads.2,
)
