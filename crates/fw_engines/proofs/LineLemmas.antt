-- The lines of printenv, one after the other.
use Rattle.std.proofs.Common.{◌≡◌, ℕ, zero, suc, ◌+◌, ◌<◌, List, [], ◌∷◌, ◌++◌, Option, Some, None, Bool, true, false, ◌||◌, length, take, drop, map, get_or, cond, inl, inr, arith, refl, sym, ap, ◌∙◌, subst, append_assoc, ne_eqb}
use Rattle.std.specs.Prelude.{MatchBool, is_none}
use Rattle.std.specs.List.{flat_map, list_any}
use Rattle.std.specs.FinMap.{get}
use Rattle.std.proofs.lemmas.Grind.{flat_map-append}
use Rattle.std.proofs.lemmas.List.{flat_map_more}
use Rattle.std.proofs.lemmas.List.Folds.{list_any-append}
use Rattle.std.proofs.KnownBytes.{Appends-nil, Appends-trans}
use Rattle.std.specs.Io.KnownBytes.{Appends}
use Rattle.envimg_core.specs.Environment.{Environment}
use Rattle.fw_engines.specs.Messages.{not_defined}
use Rattle.fw_engines.specs.Streams.{AppendsFront, AppendsPart, Writers}
use Rattle.fw_engines.specs.Tool.{Texts, Writes, WritesPart}
use Rattle.fw_engines.specs.VariableLines.{line_or_value, line_if_there, message_if_absent, line_for, message_for, is_absent, status_of, named, of_name, printed, complaint, one_name}
use Rattle.fw_engines.proofs.WriteLemmas.{nothing, front_more, front_after, part_more, part_after, after}

-- ---- all variables

pub line_written : (a b c : Option (List ℕ)) (text line : List ℕ) (items rest : List (List ℕ)) →
    (front : List ℕ) × (text ≡ front ++ flat_map (λ x. x ++ 10 ∷ []) items) × Appends a b front → items ≡ line ∷ rest → Appends b c (line ++ 10 ∷ []) →
    (front : List ℕ) × (text ≡ front ++ flat_map (λ x. x ++ 10 ∷ []) rest) × Appends a c front
line_written a b c text line items rest was is p = (
  was.0 ++ (line ++ 10 ∷ []),
  was.1 ∙ ap (λ xs. was.0 ++ flat_map (λ x. x ++ 10 ∷ []) xs) is ∙ sym (append_assoc was.0 (line ++ 10 ∷ []) (flat_map (λ x. x ++ 10 ∷ []) rest)),
  Appends-trans a b c was.0 (line ++ 10 ∷ []) was.2 p,
)

pub line_stopped : (a b c : Option (List ℕ)) (text line : List ℕ) (items rest : List (List ℕ)) →
    (front : List ℕ) × (text ≡ front ++ flat_map (λ x. x ++ 10 ∷ []) items) × Appends a b front → items ≡ line ∷ rest → AppendsPart b c (line ++ 10 ∷ []) →
    AppendsPart a c text
line_stopped a b c text line items rest was is p =
    subst (AppendsPart a c) (sym (was.1 ∙ ap (λ xs. was.0 ++ flat_map (λ x. x ++ 10 ∷ []) xs) is))
    (part_after a b c was.0 ((line ++ 10 ∷ []) ++ flat_map (λ x. x ++ 10 ∷ []) rest) was.2 (part_more b c (line ++ 10 ∷ []) (flat_map (λ x. x ++ 10 ∷ []) rest) p))

-- ---- the line of one variable, in four parts

pub line_parts : (r : Bool) (a b c : Option (List ℕ)) (name value : List ℕ) → Appends a b (name ++ 61 ∷ [] ++ value) → MatchBool r (Appends b c (10 ∷ [])) (AppendsPart b c (10 ∷ [])) →
    MatchBool r (Appends a c (name ++ 61 ∷ value ++ 10 ∷ [])) (AppendsPart a c (name ++ 61 ∷ value ++ 10 ∷ []))
line_parts r a b c name value p q =
    subst (λ t. MatchBool r (Appends a c (t ++ 10 ∷ [])) (AppendsPart a c (t ++ 10 ∷ []))) (append_assoc name (61 ∷ []) value) (after r a b c (name ++ 61 ∷ [] ++ value) (10 ∷ []) p q)

pub line_part_stopped : (a b : Option (List ℕ)) (name value : List ℕ) → AppendsPart a b (name ++ 61 ∷ [] ++ value) → AppendsPart a b (name ++ 61 ∷ value ++ 10 ∷ [])
line_part_stopped a b name value p =
    subst (λ t. AppendsPart a b (t ++ 10 ∷ [])) (append_assoc name (61 ∷ []) value) (part_more a b (name ++ 61 ∷ [] ++ value) (10 ∷ []) p)

-- ---- one name

abbrev by_value : Bool → List ℕ → Option (List ℕ) → Texts
by_value only n v = record { output = line_if_there only n v; errors = message_if_absent n v; status = status_of (is_none v) }

pub found_written : (a b e : Option (List ℕ)) (only : Bool) (env : Environment) (n v : List ℕ) → Some v ≡ get env n → Appends a b (line_or_value only n v) →
    Writes (record { output = a; errors = e }) (record { output = b; errors = e }) (of_name only env n) × (false ≡ is_absent env n)
found_written a b e only env n v is p =
    subst (λ x. Writes (record { output = a; errors = e }) (record { output = b; errors = e }) (by_value only n x) × (false ≡ is_none x)) is ((p, Appends-nil e), refl)

pub found_stopped : (a b e : Option (List ℕ)) (only : Bool) (env : Environment) (n v : List ℕ) → Some v ≡ get env n → AppendsPart a b (line_or_value only n v) →
    WritesPart (record { output = a; errors = e }) (record { output = b; errors = e }) (of_name only env n)
found_stopped a b e only env n v is p =
    subst (λ x. WritesPart (record { output = a; errors = e }) (record { output = b; errors = e }) (by_value only n x)) is (inl (p, nothing e))

pub absent_written : (o a b : Option (List ℕ)) (only : Bool) (env : Environment) (n : List ℕ) → None ≡ get env n → Appends a b (not_defined n) →
    Writes (record { output = o; errors = a }) (record { output = o; errors = b }) (of_name only env n) × (true ≡ is_absent env n)
absent_written o a b only env n is p =
    subst (λ x. Writes (record { output = o; errors = a }) (record { output = o; errors = b }) (by_value only n x) × (true ≡ is_none x)) is ((Appends-nil o, p), refl)

pub absent_stopped : (o a b : Option (List ℕ)) (only : Bool) (env : Environment) (n : List ℕ) → None ≡ get env n → AppendsPart a b (not_defined n) →
    WritesPart (record { output = o; errors = a }) (record { output = o; errors = b }) (of_name only env n)
absent_stopped o a b only env n is p =
    subst (λ x. WritesPart (record { output = o; errors = a }) (record { output = o; errors = b }) (by_value only n x)) is (inr (nothing o, p))

-- ---- the named ones

pub taken_more : {X Y : Type 0} (g : X → Y) (xs : List X) (i : ℕ) (d : X) → i < length xs → take (i + 1) (map g xs) ≡ take i (map g xs) ++ g (get_or xs i d) ∷ []
taken_more g [] i d h = absurd (omega arith)
taken_more g (y ∷ xs) zero d h = refl
taken_more g (y ∷ xs) (suc i) d h =
    ap (λ (n : ℕ). take n (g y ∷ map g xs)) (let k : suc i + 1 ≡ suc (i + 1) = omega arith in k) ∙ ap (λ ys. g y ∷ ys) (taken_more g xs i d (omega arith))

pub cut_at : {X Y : Type 0} (g : X → Y) (xs : List X) (i : ℕ) (d : X) → i < length xs → map g xs ≡ take i (map g xs) ++ g (get_or xs i d) ∷ drop (suc i) (map g xs)
cut_at g [] i d h = absurd (omega arith)
cut_at g (y ∷ xs) zero d h = refl
cut_at g (y ∷ xs) (suc i) d h = ap (λ ys. g y ∷ ys) (cut_at g xs i d (omega arith))

flat_one_more : (f : List ℕ → List ℕ) (ns : List (List ℕ)) (n : List ℕ) → flat_map f ns ++ f n ≡ flat_map f (ns ++ n ∷ [])
flat_one_more f ns n = flat_map_more f [] ns n

pub one_more : (a b c : Writers) (only : Bool) (env : Environment) (ns : List (List ℕ)) (n : List ℕ) → Writes a b (named only env ns) → Writes b c (of_name only env n) → Writes a c (named only env (ns ++ n ∷ []))
one_more a b c only env ns n p q = (
  subst (Appends a.output c.output) (flat_one_more (line_for only env) ns n) (Appends-trans a.output b.output c.output (flat_map (line_for only env) ns) (line_for only env n) p.0 q.0),
  subst (Appends a.errors c.errors) (flat_one_more (message_for env) ns n) (Appends-trans a.errors b.errors c.errors (flat_map (message_for env) ns) (message_for env n) p.1 q.1),
)

front_of_all : (a b c : Option (List ℕ)) (f : List ℕ → List ℕ) (ns rest : List (List ℕ)) (n : List ℕ) → Appends a b (flat_map f ns) → AppendsFront b c (f n) → AppendsFront a c (flat_map f (ns ++ n ∷ rest))
front_of_all a b c f ns rest n p q =
    subst (AppendsFront a c) (sym (flat_map-append f ns (n ∷ rest))) (front_after a b c (flat_map f ns) (f n ++ flat_map f rest) p (front_more b c (f n) (flat_map f rest) q))

part_of_all : (a b c : Option (List ℕ)) (f : List ℕ → List ℕ) (ns rest : List (List ℕ)) (n : List ℕ) → Appends a b (flat_map f ns) → AppendsPart b c (f n) → AppendsPart a c (flat_map f (ns ++ n ∷ rest))
part_of_all a b c f ns rest n p q =
    subst (AppendsPart a c) (sym (flat_map-append f ns (n ∷ rest))) (part_after a b c (flat_map f ns) (f n ++ flat_map f rest) p (part_more b c (f n) (flat_map f rest) q))

pub stopped_at_name : (a b c : Writers) (only : Bool) (env : Environment) (ns rest : List (List ℕ)) (n : List ℕ) → Writes a b (named only env ns) → WritesPart b c (of_name only env n) → WritesPart a c (named only env (ns ++ n ∷ rest))
stopped_at_name a b c only env ns rest n p (inl q) =
    inl (part_of_all a.output b.output c.output (line_for only env) ns rest n p.0 q.0, front_of_all a.errors b.errors c.errors (message_for env) ns rest n p.1 q.1)
stopped_at_name a b c only env ns rest n p (inr q) =
    inr (front_of_all a.output b.output c.output (line_for only env) ns rest n p.0 q.0, part_of_all a.errors b.errors c.errors (message_for env) ns rest n p.1 q.1)

pub absent_more : (env : Environment) (ns : List (List ℕ)) (n : List ℕ) (was now missing : Bool) → was ≡ list_any (is_absent env) ns → missing ≡ is_absent env n → now ≡ (was || missing) →
    now ≡ list_any (is_absent env) (ns ++ n ∷ [])
absent_more env ns n was now missing p q r =
    r ∙ (λ i. p i || q i) ∙ ap (λ b. list_any (is_absent env) ns || b) (sym (or_false (is_absent env n))) ∙ sym (list_any-append (is_absent env) ns (n ∷ []))
  where
    or_false : (b : Bool) → (b || false) ≡ b
    or_false true = refl
    or_false false = refl

-- ---- a wrong number of names

pub printed_wrong : (env : Environment) (names : List (List ℕ)) (only : Bool) → only ≡ true → (length names ≡ 1 → ⊥) → printed env names only ≡ complaint one_name
printed_wrong env names only is ne = ap (printed env names) is ∙ by_names names ne
  where
    by_names : (ns : List (List ℕ)) → (length ns ≡ 1 → ⊥) → printed env ns true ≡ complaint one_name
    by_names [] h = refl
    by_names (n ∷ ns) h = ap (λ b. cond b (named true env (n ∷ ns)) (complaint one_name)) (ne_eqb (length (n ∷ ns)) 1 h)
