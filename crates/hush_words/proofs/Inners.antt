-- What is left to read between double quotes.
use Rattle.std.specs.Prelude.{◌≡◌, ℕ, ◌+◌, ◌-◌, ◌<◌, ◌≤◌, ◌==◌, ◌||◌, Bool, true, false, not, List, [], ◌∷◌, ◌++◌, map, length, take, drop, Some, None}
use Rattle.std.specs.List.{flat_map}
use Rattle.std.specs.Option.{option_map}
use Rattle.std.proofs.Common.{refl, sym, ◌∙◌, ap, subst, arith, length-take, inl, inr}
use Rattle.std.proofs.lemmas.Bool.{cases_Bool, ne_eqb}
use Rattle.hush_words.specs.Words.{Atom, Inner, Dollar, dollar_atom, inner_atoms, is_inner, is_escaped, next}
use Rattle.hush_words.specs.Words.Atom.{Quoted}
use Rattle.hush_words.specs.Words.Inner.{Byte, Backslash, EscapedInner, JoinedInner, DollarInner}
use Rattle.hush_words.specs.Reading.{Found, found, front, behind, as_inner, dollar_at, inner_at, inner_escape}
use Rattle.hush_words.specs.Steps.{StandsAt, IsRun, dollar_read, inner_left, inner_end}
use Rattle.hush_words.proofs.Many.{all-some, all-none}
use Rattle.hush_words.proofs.Finders.{inner-shortens, inner-dollar, inner-backslash, inner-byte, escape-alone, escape-byte, escape-line}

pub inner-one : (bs : List ℕ) (p : Inner) (r : List ℕ) → inner_at bs ≡ found p r →
    (inner_left bs ≡ inner_atoms p ++ inner_left r) × (inner_end bs ≡ inner_end r)
unfolding inner_left inner_end
inner-one bs p r e =
    let q = all-some inner_at inner-shortens bs p r e in
    (ap (λ w. flat_map inner_atoms w.0) q, ap (λ w. w.1) q)

pub inner-none : (bs : List ℕ) → inner_at bs ≡ None → (inner_left bs ≡ []) × (inner_end bs ≡ bs)
unfolding inner_left inner_end
inner-none bs e =
    let q = all-none inner_at bs e in
    (ap (λ w. flat_map inner_atoms w.0) q, ap (λ w. w.1) q)

pub inner-run : (bs : List ℕ) →
    (inner_left bs ≡ map Quoted (front is_inner bs) ++ inner_left (behind is_inner bs)) × (inner_end bs ≡ inner_end (behind is_inner bs))
inner-run [] = (refl, refl)
inner-run (b ∷ bs) =
    elim (cases_Bool (is_inner b)) [
      | inl e ↦
          let one = inner-one (b ∷ bs) (Byte b) bs (inner-byte b bs e) in
          let more = inner-run bs in
          (rw e (one.0 ∙ ap (λ l. Quoted b ∷ l) more.0), rw e (one.1 ∙ more.1))
      | inr e ↦ (rw e refl, rw e refl)
    ]

-- one piece, by what is at the place
pub one-inner : (source : List ℕ) (at end : ℕ) (p : Inner) (atoms : List Atom) →
    inner_at (drop at source) ≡ found p (drop end source) → inner_atoms p ≡ atoms →
    (inner_left (drop at source) ≡ atoms ++ inner_left (drop end source)) × (inner_end (drop at source) ≡ inner_end (drop end source))
one-inner source at end p atoms e f =
    let one = inner-one (drop at source) p (drop end source) e in
    (one.0 ∙ ap (λ l. l ++ inner_left (drop end source)) f, one.1)

dollar-inner : (bs : List ℕ) (o : Found Dollar) (atoms : List Atom) (rest : List ℕ) → dollar_at bs ≡ o →
    option_map (dollar_read true) o ≡ Some (atoms, rest) →
    (inner_left (36 ∷ bs) ≡ atoms ++ inner_left rest) × (inner_end (36 ∷ bs) ≡ inner_end rest)
dollar-inner bs None atoms rest e h = absurd (cc)
dollar-inner bs (Some f) atoms rest e h =
    let w : ◌≡◌ {A = List Atom × List ℕ} (dollar_atom true f.0 ∷ [], f.1) (atoms, rest) = cc in
    let one = inner-one (36 ∷ bs) (DollarInner f.0) f.1 (inner-dollar bs ∙ ap (λ o. option_map as_inner o) e) in
    (one.0 ∙ ap (λ v. v.0 ++ inner_left v.1) w, one.1 ∙ ap (λ v. inner_end v.1) w)

pub read-dollar : (source : List ℕ) (at end : ℕ) (atoms : List Atom) → StandsAt source at 36 →
    option_map (dollar_read true) (dollar_at (drop (at + 1) source)) ≡ Some (atoms, drop end source) →
    (inner_left (drop at source) ≡ atoms ++ inner_left (drop end source)) × (inner_end (drop at source) ≡ inner_end (drop end source))
read-dollar source at end atoms here h =
    let d = dollar-inner (drop (at + 1) source) (dollar_at (drop (at + 1) source)) atoms (drop end source) refl h in
    (ap inner_left here.1 ∙ d.0, ap inner_end here.1 ∙ d.1)

pub no-dollar : (source : List ℕ) (at : ℕ) → StandsAt source at 36 → dollar_at (drop (at + 1) source) ≡ None → inner_at (drop at source) ≡ None
no-dollar source at here e = ap inner_at here.1 ∙ inner-dollar (drop (at + 1) source) ∙ ap (λ o. option_map as_inner o) e

quote-end : (bs : List ℕ) → inner_at (34 ∷ bs) ≡ None
unfolding inner_at is_inner
quote-end bs = refl

pub quote-stops : (source : List ℕ) (at b : ℕ) → StandsAt source at b → b ≡ 34 → inner_at (drop at source) ≡ None
quote-stops source at b here e = ap inner_at (here.1 ∙ ap (λ k. k ∷ drop (at + 1) source) e) ∙ quote-end (drop (at + 1) source)

pub end-stops : (source : List ℕ) (at : ℕ) → drop at source ≡ [] → inner_at (drop at source) ≡ None
unfolding inner_at
end-stops source at e = ap inner_at e

pub inner-byte-by : (b : ℕ) → (b ≡ 36 → ⊥) → (b ≡ 92 → ⊥) → (b ≡ 34 → ⊥) → is_inner b ≡ true
unfolding is_inner
inner-byte-by b d s q =
    let e : (b == 34) ≡ false = ne_eqb b 34 q in
    let f : (b == 36) ≡ false = ne_eqb b 36 d in
    let g : (b == 92) ≡ false = ne_eqb b 92 s in rw (e, f, g) refl

first-inside : (test : ℕ → Bool) (b : ℕ) (bs : List ℕ) → test b ≡ true → 1 ≤ length (front test (b ∷ bs))
first-inside test b bs e = rw e (omega arith)

-- a run that begins with a byte of its class isn't empty
pub run-takes : (test : ℕ → Bool) (source : List ℕ) (start end b : ℕ) → StandsAt source start b → test b ≡ true → IsRun test source start end → start < end
run-takes test source start end b here e run =
    let long = subst (λ l. 1 ≤ length (front test l)) (sym here.1) (first-inside test b (drop (start + 1) source) e) in
    omega (arith, ap length run.2, length-take (end - start) (drop start source))

pub read-run : (source : List ℕ) (start end : ℕ) → IsRun is_inner source start end →
    (inner_left (drop start source) ≡ map Quoted (take (end - start) (drop start source)) ++ inner_left (drop end source)) ×
    (inner_end (drop start source) ≡ inner_end (drop end source))
read-run source start end run =
    let r = inner-run (drop start source) in (
      r.0 ∙ ap (λ l. map Quoted l ++ inner_left (behind is_inner (drop start source))) (sym run.2)
          ∙ ap (λ l. map Quoted (take (end - start) (drop start source)) ++ inner_left l) (sym run.3),
      r.1 ∙ ap inner_end (sym run.3),
    )

-- after a `\`
pub at-escaped : (source : List ℕ) (at b : ℕ) → StandsAt source at 92 → StandsAt source (at + 1) b → is_escaped b ≡ true →
    inner_at (drop at source) ≡ found (EscapedInner b) (drop (at + 1 + 1) source)
at-escaped source at b here next' e =
    ap inner_at here.1 ∙ inner-backslash (drop (at + 1) source) ∙ ap inner_escape next'.1 ∙ escape-byte b (drop (at + 1 + 1) source) e

pub at-joined : (source : List ℕ) (at b : ℕ) → StandsAt source at 92 → StandsAt source (at + 1) b → b ≡ 10 →
    inner_at (drop at source) ≡ found JoinedInner (drop (at + 1 + 1) source)
at-joined source at b here next' e =
    ap inner_at here.1 ∙ inner-backslash (drop (at + 1) source)
    ∙ ap inner_escape (next'.1 ∙ ap (λ k. k ∷ drop (at + 1 + 1) source) e) ∙ escape-line (drop (at + 1 + 1) source)

not_escaping : (b : ℕ) → is_escaped b ≡ false → (b ≡ 10 → ⊥) → not (is_escaped b || b == 10) ≡ true
not_escaping b e f = let g : (b == 10) ≡ false = ne_eqb b 10 f in rw (e, g) refl

pub at-backslash : (source : List ℕ) (at b : ℕ) → StandsAt source at 92 → StandsAt source (at + 1) b → is_escaped b ≡ false → (b ≡ 10 → ⊥) →
    inner_at (drop at source) ≡ found Backslash (drop (at + 1) source)
at-backslash source at b here next' e f =
    ap inner_at here.1 ∙ inner-backslash (drop (at + 1) source)
    ∙ escape-alone (drop (at + 1) source) (subst (λ l. next (λ k. not (is_escaped k || k == 10)) l ≡ true) (sym next'.1) (not_escaping b e f))

pub at-last : (source : List ℕ) (at : ℕ) → StandsAt source at 92 → drop (at + 1) source ≡ [] →
    inner_at (drop at source) ≡ found Backslash (drop (at + 1) source)
at-last source at here e =
    ap inner_at here.1 ∙ inner-backslash (drop (at + 1) source)
    ∙ escape-alone (drop (at + 1) source) (subst (λ l. next (λ k. not (is_escaped k || k == 10)) l ≡ true) (sym e) refl)
