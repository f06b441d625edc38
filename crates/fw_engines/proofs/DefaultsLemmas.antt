-- One more entry of a default environment.
use Rattle.std.proofs.Common.{◌≡◌, ℕ, ◌<◌, ◌++◌, List, [], ◌∷◌, Option, Some, None, Result, Ok, Err, true, cond, length, refl, sym, ap, ◌∙◌, subst, arith}
use Rattle.std.proofs.Math.Seq.{take-append_seam}
use Rattle.std.proofs.lemmas.List.{append_assoc, append-nil}
use Rattle.std.specs.FinMap as env
use Rattle.envimg_core.specs.Environment.{Environment, is_name, used}
use Rattle.envcfg_core.specs.Entries.{Entry}
use Rattle.envvars_core.specs.Refusals.{refusal, after, given, first_refusal, has_type_if_some, holds_no_zero}
use Rattle.envvars_core.specs.Attributes.{attributes}
use Rattle.envvars_core.specs.declared.refusals.Refusal.{Refusal}
use Rattle.envvars_core.specs.declared.refusals.Refusal.TheVariants.{BadForm, BadType, NoCreate, NoDelete, NoOverwrite, Full, Memory}
use Rattle.fw_engines.specs.Defaults.{written, entry_refusal, refused_or, RanOut, RefusesDefaults}
use Rattle.std.specs.Prelude.{slice_get, IfSome, IfNone, IsOkUnless, Bool, false, ◌&&◌, is_none, nat_lt}

-- a forced write doesn't depend on the default environment
pub forced : (m d : Environment) (room : ℕ) (e : Entry) → refusal m d room e.name e.value true ≡ entry_refusal room m e
unfolding refusal
forced m d room e = refl

pub written-append : (room : ℕ) (m n : Environment) (xs ys : List Entry) → written room m xs ≡ Ok n → written room m (xs ++ ys) ≡ written room n ys
written-append room m n [] ys e = let same : m ≡ n = cc in ap (λ x. written room x ys) same
written-append room m n (x ∷ xs) ys e =
    let rest : written room (after m x.name x.value) xs ≡ Ok n → written room (after m x.name x.value) (xs ++ ys) ≡ written room n ys =
    written-append room (after m x.name x.value) n xs ys in
    by_refusal (entry_refusal room m x) rest e
  where
    by_refusal : (o : Option Refusal) →
        (written room (after m x.name x.value) xs ≡ Ok n → written room (after m x.name x.value) (xs ++ ys) ≡ written room n ys) →
        refused_or o x.line (written room (after m x.name x.value) xs) ≡ Ok n →
        refused_or o x.line (written room (after m x.name x.value) (xs ++ ys)) ≡ written room n ys
    by_refusal None f h = f h
    by_refusal (Some r) f h = cc

-- ---- the entries before were written, and these are left

abbrev pub IsWritten : ℕ → List Entry → List Entry → Environment → Type 0
IsWritten room all rest m = (front : List Entry) × (all ≡ front ++ rest) × (written room env.empty front ≡ Ok m)

pub none_written : (room : ℕ) (all : List Entry) (m : Environment) → m ≡ env.empty → IsWritten room all all m
none_written room all m is = ([], refl, ap (λ x. Ok x) (sym is))

pub all_written : (room : ℕ) (all : List Entry) (m : Environment) → IsWritten room all [] m → written room env.empty all ≡ Ok m
all_written room all m w = ap (written room env.empty) (w.1 ∙ append-nil w.0) ∙ w.2

-- what is left, as it was cut
pub cut_written : (room : ℕ) (all rest left : List Entry) (m : Environment) → rest ≡ left → IsWritten room all rest m → IsWritten room all left m
cut_written room all rest left m cut w = subst (λ r. IsWritten room all r m) cut w

one_more : (room : ℕ) (all rest : List Entry) (e : Entry) (m : Environment) → IsWritten room all (e ∷ rest) m → entry_refusal room m e ≡ None → IsWritten room all rest (after m e.name e.value)
one_more room all rest e m w none = (
  w.0 ++ e ∷ [],
  w.1 ∙ sym (append_assoc w.0 (e ∷ []) rest),
  written-append room env.empty m w.0 (e ∷ []) w.2 ∙ ap (λ o. refused_or o e.line (Ok (after m e.name e.value))) none,
)

refused_at : (room : ℕ) (all rest : List Entry) (e : Entry) (m : Environment) (r : Refusal) → IsWritten room all (e ∷ rest) m → entry_refusal room m e ≡ Some r → written room env.empty all ≡ Err (e.line, r)
refused_at room all rest e m r w some =
    ap (written room env.empty) w.1
    ∙ written-append room env.empty m w.0 (e ∷ rest) w.2
    ∙ ap (λ o. refused_or o e.line (written room (after m e.name e.value) rest)) some

-- what holds of the entry after those before it
there : (P : Entry → Type 0) (front rest : List Entry) (e : Entry) → P e → IfSome (slice_get (front ++ e ∷ rest) (length front)) P
there P [] rest e p = p
there P (x ∷ front) rest e p = there P front rest e p

before : (front rest : List Entry) (e : Entry) → length front < length (front ++ e ∷ rest)
before [] rest e = omega arith
before (x ∷ front) rest e = let less = before front rest e in omega (arith, less)

ran_out : (room : ℕ) (all rest : List Entry) (e : Entry) (m : Environment) → IsWritten room all (e ∷ rest) m → entry_refusal room m e ≡ None → RanOut room all e.line
ran_out room all rest e m w none =
    subst (λ es. RanOut room es e.line) (sym w.1) (
      length w.0,
      m,
      before w.0 rest e,
      ap (written room env.empty) (take-append_seam w.0 (e ∷ rest)) ∙ w.2,
      there (λ x. (x.line ≡ e.line) × (entry_refusal room m x ≡ None)) w.0 rest e (refl, none),
    )

-- a forced write is refused by form, type or size
refused_early : (formed nothing typed full : Bool) → first_refusal formed nothing typed None (cond full (Some Full) None) ≡ Some Memory → ⊥
refused_early false nothing typed full h = cc
refused_early true true typed full h = cc
refused_early true false false full h = cc
refused_early true false true true h = cc
refused_early true false true false h = cc

never_memory : (room : ℕ) (m : Environment) (e : Entry) → entry_refusal room m e ≡ Some Memory → ⊥
unfolding refusal
never_memory room m e h =
    refused_early (is_name e.name && holds_no_zero e.value) (is_none (env.get m e.name) && is_none (given e.value))
    (has_type_if_some (attributes m e.name).kind (given e.value)) (nat_lt room (used (after m e.name e.value))) h

answered : (room : ℕ) (es : List Entry) (line : ℕ) (r : Refusal) → (r ≡ Memory → ⊥) → written room env.empty es ≡ Err (line, r) → RefusesDefaults room es line r
answered room es line Memory never e = absurd (never refl)
answered room es line BadForm never e = e
answered room es line BadType never e = e
answered room es line NoCreate never e = e
answered room es line NoDelete never e = e
answered room es line NoOverwrite never e = e
answered room es line Full never e = e

same_error : (r s : Refusal) → ◌≡◌ {A = Result (Unit {0}) Refusal} (Err r) (Err s) → r ≡ s
same_error r s e = cc

-- what writing an entry answered: the clauses of write_entry, at the room of the variables
pub stopped_at : (room of : ℕ) (all rest : List Entry) (e : Entry) (m : Environment) (r : Refusal) → of ≡ room → IsWritten room all (e ∷ rest) m →
    IfSome (entry_refusal of m e) (λ s. ◌≡◌ {A = Result (Unit {0}) Refusal} (Err r) (Err s)) → IfNone (entry_refusal of m e) (IsOkUnless {T = Unit {0}} (Err r) Memory) → RefusesDefaults room all e.line r
stopped_at room of all rest e m r is w some none =
    by_refusal (entry_refusal room m e) refl
    (subst (λ (k : ℕ). IfSome (entry_refusal k m e) (λ s. ◌≡◌ {A = Result (Unit {0}) Refusal} (Err r) (Err s))) is some)
    (subst (λ (k : ℕ). IfNone (entry_refusal k m e) (IsOkUnless {T = Unit {0}} (Err r) Memory)) is none)
  where
    by_refusal : (o : Option Refusal) → entry_refusal room m e ≡ o → IfSome o (λ s. ◌≡◌ {A = Result (Unit {0}) Refusal} (Err r) (Err s)) → IfNone o (IsOkUnless {T = Unit {0}} (Err r) Memory) → RefusesDefaults room all e.line r
    by_refusal None k p q = subst (RefusesDefaults room all e.line) (sym q) (ran_out room all rest e m w k)
    by_refusal (Some s) k p q =
        let same : s ≡ r = sym (same_error r s p) in
        answered room all e.line r (λ out. never_memory room m e (k ∙ ap (λ x. Some x) (same ∙ out))) (refused_at room all rest e m s w k ∙ ap (λ x. Err (e.line, x)) same)

-- an accepted entry has no refusal
accepted_none : (o : Option Refusal) → IfSome o (λ s. ◌≡◌ {A = Result (Unit {0}) Refusal} (Ok tt) (Err s)) → o ≡ None
accepted_none None h = refl
accepted_none (Some s) h = cc

pub went_on : (room of : ℕ) (all rest : List Entry) (e : Entry) (m n : Environment) → of ≡ room → IsWritten room all (e ∷ rest) m →
    IfSome (entry_refusal of m e) (λ s. ◌≡◌ {A = Result (Unit {0}) Refusal} (Ok tt) (Err s)) → n ≡ after m e.name e.value → IsWritten room all rest n
went_on room of all rest e m n is w some new =
    let none = accepted_none (entry_refusal room m e) (subst (λ (k : ℕ). IfSome (entry_refusal k m e) (λ s. ◌≡◌ {A = Result (Unit {0}) Refusal} (Ok tt) (Err s))) is some) in
    subst (IsWritten room all rest) (sym new) (one_more room all rest e m w none)

-- ---- what a write of the entry answers, as an answer for the entry

as_entry : (m d : Environment) (room : ℕ) (n : List ℕ) (v : Option (List ℕ)) (e : Entry) → n ≡ e.name → v ≡ e.value → refusal m d room n v true ≡ entry_refusal room m e
as_entry m d room n v e p q = ap (λ x. refusal m d room x v true) p ∙ ap (λ x. refusal m d room e.name x true) q ∙ forced m d room e

pub not_refused : {W : Type 0} (m d : Environment) (room : ℕ) (n : List ℕ) (v : Option (List ℕ)) (e : Entry) (w : W) → n ≡ e.name → v ≡ e.value →
    IfSome (refusal m d room n v true) (λ r. ◌≡◌ {A = Result W Refusal} (Ok w) (Err r)) → IfSome (entry_refusal room m e) (λ r. ◌≡◌ {A = Result (Unit {0}) Refusal} (Ok tt) (Err r))
not_refused {W} m d room n v e w p q h =
    let P : Option Refusal → Type 0 = λ o. IfSome o (λ r. ◌≡◌ {A = Result (Unit {0}) Refusal} (Ok tt) (Err r)) in
    subst P (as_entry m d room n v e p q) (moved (refusal m d room n v true) h)
  where
    moved : (o : Option Refusal) → IfSome o (λ r. ◌≡◌ {A = Result W Refusal} (Ok w) (Err r)) → IfSome o (λ r. ◌≡◌ {A = Result (Unit {0}) Refusal} (Ok tt) (Err r))
    moved None k = tt
    moved (Some r) k = cc

pub same_refused : (W : Type 0) (m d : Environment) (room : ℕ) (n : List ℕ) (v : Option (List ℕ)) (e : Entry) (s : Refusal) → n ≡ e.name → v ≡ e.value →
    IfSome (refusal m d room n v true) (λ r. ◌≡◌ {A = Result W Refusal} (Err s) (Err r)) → IfSome (entry_refusal room m e) (λ r. ◌≡◌ {A = Result (Unit {0}) Refusal} (Err s) (Err r))
same_refused W m d room n v e s p q h =
    let P : Option Refusal → Type 0 = λ o. IfSome o (λ r. ◌≡◌ {A = Result (Unit {0}) Refusal} (Err s) (Err r)) in
    subst P (as_entry m d room n v e p q) (moved (refusal m d room n v true) h)
  where
    moved : (o : Option Refusal) → IfSome o (λ r. ◌≡◌ {A = Result W Refusal} (Err s) (Err r)) → IfSome o (λ r. ◌≡◌ {A = Result (Unit {0}) Refusal} (Err s) (Err r))
    moved None k = tt
    moved (Some r) k = let same : s ≡ r = cc in ap (λ x. Err x) same

pub same_accepted : (m d : Environment) (room : ℕ) (n : List ℕ) (v : Option (List ℕ)) (e : Entry) (A : Type 0) → n ≡ e.name → v ≡ e.value →
    IfNone (refusal m d room n v true) A → IfNone (entry_refusal room m e) A
same_accepted m d room n v e A p q h = let P : Option Refusal → Type 0 = λ o. IfNone o A in subst P (as_entry m d room n v e p q) h
