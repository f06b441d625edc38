-- How the tools that change a session end.
use Rattle.std.proofs.Common.{◌≡◌, ℕ, zero, suc, ◌+◌, ◌<◌, ◌≤◌, List, [], ◌∷◌, Option, Some, None, false, length, take, drop, map, get_or, arith, refl, sym, ap, ◌∙◌, subst, cond, inr, append_assoc}
use Rattle.std.specs.Prelude.{◌⊎◌, ◌++◌, IsSomeAnd, IsTrue, MatchOption, is_some, slice_get}
use Rattle.std.proofs.lemmas.List.{append-nil, length-map, take_all, drop_all}
use Rattle.std.proofs.KnownBytes.{Appends-nil, Keeps-refl}
use Rattle.std.specs.Io.KnownBytes.{Appends}
use Rattle.env_session.specs.Session.{Held, last_saved, side_of, written, saved}
use Rattle.env_session.specs.Requests.{IsChange, entry_in, refusal_in, write_done, imported, tally}
use Rattle.envcfg_core.specs.Entries.{entry_view}
use Rattle.envcfg_core.specs.declared.entry.TextEntry.{TextEntry}
use Rattle.envimg_core.specs.Pieces.{Entry}
use Rattle.envvars_core.specs.declared.refusals.Refusal.{Refusal}
use Rattle.fw_engines.specs.Streams.{AppendsPart}
use Rattle.fw_engines.specs.Tool.{PrintsText}
use Rattle.fw_engines.specs.Changes.{Changing, Effect, Ends, Changes, LacksMemory, LacksMemoryToName, LacksMemoryToSet, NeedsMemory, NeedsMemoryToName, count_status, count_text, named_import_effect, pair_of, silent, refused_by, refused_line, refused_lines, unless_refused, set_effect, script_effect}
use Rattle.text_parts.specs.Words.{spaced}
use Rattle.fw_engines.specs.declared.tool_end.ToolEnd.{ToolEnd}
use Rattle.fw_engines.specs.declared.tool_end.StreamFault.{StreamFault}
use Rattle.fw_engines.specs.declared.tool_end.StreamFault.TheVariants.{Read, Write, Memory}

-- ---- if memory ran out

pub at_write : (old now new : Held) (n : ℕ) (es : List Entry) (k : ℕ) (e : Entry) (rest : List Entry) → ◌≡◌ {A = Held × ℕ} (now, n) (imported old (take k es)) →
    drop k es ≡ e ∷ rest → IsChange now e → new ≡ now → LacksMemory old es n new
at_write old now new n es k e rest so_far cut change is =
    (k, ap (λ (h : Held). (h, n)) is ∙ so_far, subst (λ h. NeedsMemory h (drop k es)) (sym is) (subst (NeedsMemory now) (sym cut) change))

pub at_save : (old now new : Held) (n : ℕ) (es : List Entry) (k : ℕ) → ◌≡◌ {A = Held × ℕ} (now, n) (imported old (take k es)) →
    drop k es ≡ [] → last_saved (side_of now) now.marks ≡ false → new ≡ now → LacksMemory old es n new
at_save old now new n es k so_far none unsaved is =
    (k, ap (λ (h : Held). (h, n)) is ∙ so_far, subst (λ h. NeedsMemory h (drop k es)) (sym is) (subst (NeedsMemory now) (sym none) unsaved))

some_left : (es : List Entry) (k : ℕ) (P : Entry → Type 0) → IsSomeAnd (slice_get es k) P → (e : Entry) × (rest : List Entry) × (drop k es ≡ e ∷ rest) × P e
some_left [] k P p = absurd p
some_left (e ∷ es) zero P p = (e, es, refl, p)
some_left (e ∷ es) (suc k) P p = some_left es k P p

pub in_import : (old new : Held) (n : ℕ) (es : List Entry) (k : ℕ) → ◌≡◌ {A = Held × ℕ} (new, n) (imported old (take k es)) →
    IsSomeAnd (slice_get es k) (IsChange (imported old (take k es)).0) → LacksMemory old es n new
in_import old new n es k so_far change =
    let left = some_left es k (IsChange (imported old (take k es)).0) change in
    at_write old new new n es k left.0 left.1 so_far left.2 (subst (λ h. IsChange h left.0) (sym (ap (λ p. p.0) so_far)) left.3) refl

pub in_entry : (old now new : Held) (n : ℕ) (es : List Entry) (k : ℕ) (e : Entry) (rest : List Entry) → ◌≡◌ {A = Held × ℕ} (now, n) (imported old (take k es)) →
    drop k es ≡ e ∷ rest → IsChange now e ⊎ IsTrue (is_some (refusal_in now e.0 e.1 false)) → new ≡ now → LacksMemoryToName old es new
in_entry old now new n es k e rest so_far cut lacks is =
    (k, n, ap (λ (h : Held). (h, n)) is ∙ so_far, subst (λ h. NeedsMemoryToName h (drop k es)) (sym is) (subst (NeedsMemoryToName now) (sym cut) lacks))

pub at_import_save : (old now new : Held) (n : ℕ) (es : List Entry) → ◌≡◌ {A = Held × ℕ} (now, n) (imported old es) →
    last_saved (side_of now) now.marks ≡ false → new ≡ now → LacksMemoryToName old es new
at_import_save old now new n es so_far unsaved is = (
  length es,
  n,
  ap (λ (h : Held). (h, n)) is ∙ so_far ∙ ap (imported old) (sym (take_all (length es) es (omega arith))),
  subst (λ h. NeedsMemoryToName h (drop (length es) es)) (sym is) (subst (NeedsMemoryToName now) (sym (drop_all (length es) es (omega arith))) unsaved),
)

pub ran_out : (end : ToolEnd) (a : Option (List ℕ)) (old new : Held) (effect : Effect) (lacks : Held → Type 0) → (end.status ≡ 1) × (end.fault ≡ Some Memory) → lacks new →
    Changes (record { session = old; errors = a }) (record { session = new; errors = a }) effect lacks end
ran_out end a old new effect lacks is out =
    subst (λ f. Ends f (record { session = old; errors = a }) (record { session = new; errors = a }) effect lacks end.status) (sym is.1) (Keeps-refl a, is.0, out)

-- ---- a text was printed

pub text_ends : (end : ToolEnd) (a b : Option (List ℕ)) (old new : Held) (effect : Effect) (lacks : Held → Type 0) → new ≡ effect.session → PrintsText a b effect.text effect.status end →
    Changes (record { session = old; errors = a }) (record { session = new; errors = b }) effect lacks end
text_ends end a b old new effect lacks is p = by_fault end.fault p
  where
    by_fault : (f : Option StreamFault) → MatchOption f (Appends a b effect.text × (end.status ≡ effect.status)) (λ fault. (fault ≡ Write) × AppendsPart a b effect.text × (end.status ≡ 1)) →
        Ends f (record { session = old; errors = a }) (record { session = new; errors = b }) effect lacks end.status
    by_fault None h = (h.0, h.1, is)
    by_fault (Some f) h = subst (λ x. Ends (Some x) (record { session = old; errors = a }) (record { session = new; errors = b }) effect lacks end.status) (sym h.0) (h.1, h.2, is)

-- a save without a text
pub silent_ends : (end : ToolEnd) (a : Option (List ℕ)) (old mid new : Held) (effect : Effect) (es : List Entry) (k : ℕ) → ◌≡◌ {A = Held × ℕ} (mid, 0) (imported old (take k es)) →
    drop k es ≡ [] → effect ≡ silent (saved mid) →
    MatchOption end.fault ((new ≡ saved mid) × (end.status ≡ 0)) (λ fault. (fault ≡ Memory) × (new ≡ mid) × (last_saved (side_of mid) mid.marks ≡ false) × (end.status ≡ 1)) →
    Changes (record { session = old; errors = a }) (record { session = new; errors = a }) effect (LacksMemory old es 0) end
silent_ends end a old mid new effect es k so_far none is p =
    subst (λ d. Ends end.fault (record { session = old; errors = a }) (record { session = new; errors = a }) d (LacksMemory old es 0) end.status) (sym is) (by_fault end.fault p)
  where
    by_fault : (f : Option StreamFault) → MatchOption f ((new ≡ saved mid) × (end.status ≡ 0)) (λ fault. (fault ≡ Memory) × (new ≡ mid) × (last_saved (side_of mid) mid.marks ≡ false) × (end.status ≡ 1)) →
        Ends f (record { session = old; errors = a }) (record { session = new; errors = a }) (silent (saved mid)) (LacksMemory old es 0) end.status
    by_fault None h = (Appends-nil a, h.1, h.0)
    by_fault (Some f) h =
        subst (λ x. Ends (Some x) (record { session = old; errors = a }) (record { session = new; errors = a }) (silent (saved mid)) (LacksMemory old es 0) end.status) (sym h.0)
        (Keeps-refl a, h.3, at_save old mid new 0 es k so_far none h.2 h.1)

-- ---- one write

pub set_refused : (h : Held) (name value : List ℕ) (r : Refusal) → Some r ≡ refusal_in h name (Some value) false → set_effect h name value ≡ refused_by r name h
set_refused h name value r is = ap (λ o. unless_refused o name h (silent (saved (written h name (Some value))))) (sym is)

pub set_accepted : (h : Held) (name value : List ℕ) → None ≡ refusal_in h name (Some value) false → set_effect h name value ≡ silent (saved (written h name (Some value)))
set_accepted h name value is = ap (λ o. unless_refused o name h (silent (saved (written h name (Some value))))) (sym is)

pub done_accepted : (h : Held) (name : List ℕ) (new : Option (List ℕ)) → None ≡ refusal_in h name new false → write_done h name new false ≡ written h name new
done_accepted h name new is = ap (λ o. cond (is_some o) h (written h name new)) (sym is)

pub done_refused : (h : Held) (name : List ℕ) (new : Option (List ℕ)) (r : Refusal) → Some r ≡ refusal_in h name new false → write_done h name new false ≡ h
done_refused h name new r is = ap (λ o. cond (is_some o) h (written h name new)) (sym is)

pub change_of_entry : (h : Held) (n m : List ℕ) (v w : Option (List ℕ)) → n ≡ m → v ≡ w → IsChange h (n, v) → IsChange h (m, w)
change_of_entry h n m v w p q change = subst (IsChange h) (λ i. (p i, q i)) change

-- no joined word is empty
pub none_spaced : {X : Type 0} (g : X → List ℕ) (ws : List X) → length ws ≡ 0 → [] ≡ spaced (map g ws)
none_spaced g [] h = refl
none_spaced g (w ∷ ws) h = absurd (omega (arith, h))

-- a single word is the value that joining gives
pub one_spaced : {X : Type 0} (g : X → List ℕ) (ws : List X) (d : X) → length ws ≡ 1 → g (get_or ws 0 d) ≡ spaced (map g ws)
one_spaced g [] d h = absurd (omega (arith, h))
one_spaced g (w ∷ []) d h = sym (append-nil (g w))
one_spaced g (w ∷ v ∷ ws) d h = absurd (omega (arith, h))

-- setenv ends as the write of its value does
pub set_ends : (end : ToolEnd) (old new : Changing) (name value : List ℕ) (words : List (List ℕ)) → value ≡ spaced words →
    Changes old new (set_effect old.session name value) (LacksMemory old.session ((name, Some value) ∷ []) 0) end →
    Changes old new (set_effect old.session name (spaced words)) (LacksMemoryToSet old.session name words) end
set_ends end old new name value words is ends =
    by_fault end.fault (subst (λ v. Ends end.fault old new (set_effect old.session name v) (LacksMemory old.session ((name, Some v) ∷ []) 0) end.status) is ends)
  where
    by_fault : (f : Option StreamFault) → Ends f old new (set_effect old.session name (spaced words)) (LacksMemory old.session ((name, Some (spaced words)) ∷ []) 0) end.status →
        Ends f old new (set_effect old.session name (spaced words)) (LacksMemoryToSet old.session name words) end.status
    by_fault None h = h
    by_fault (Some Write) h = h
    by_fault (Some Read) h = h
    by_fault (Some Memory) h = (h.0, h.1, inr h.2)

-- ---- a set script

pub drop_at : {X Y : Type 0} (g : X → Y) (xs : List X) (i : ℕ) (x : X) → i < length xs → x ≡ get_or xs i x → drop i (map g xs) ≡ g x ∷ drop (i + 1) (map g xs)
drop_at g [] i x h is = absurd (omega arith)
drop_at g (y ∷ xs) zero x h is = ap (λ z. g z ∷ map g xs) (sym is)
drop_at g (y ∷ xs) (suc i) x h is =
    drop_at g xs i x (omega arith) is ∙ ap (λ (n : ℕ). g x ∷ drop n (g y ∷ map g xs)) (let k : suc (i + 1) ≡ suc i + 1 = omega arith in k)

-- what is left of a set script after one line
pub script_more : (now new : Held) (e : Entry) (es : List Entry) → None ≡ refusal_in now e.0 e.1 false → new ≡ write_done now e.0 e.1 false → script_effect now (e ∷ es) ≡ script_effect new es
script_more now new e es none is =
    ap (λ o. unless_refused o e.0 now (script_effect (written now e.0 e.1) es)) (sym none) ∙ ap (λ h. script_effect h es) (sym (is ∙ done_accepted now e.0 e.1 none))

pub script_refused : (now : Held) (e : Entry) (es : List Entry) (r : Refusal) → Some r ≡ refusal_in now e.0 e.1 false → script_effect now (e ∷ es) ≡ refused_by r e.0 now
script_refused now e es r some = ap (λ o. unless_refused o e.0 now (script_effect (written now e.0 e.1) es)) (sym some)

pub tally_more : (now new : Held) (e : Entry) → None ≡ refusal_in now e.0 e.1 false → new ≡ write_done now e.0 e.1 false → ◌≡◌ {A = Held × ℕ} (new, 0) (tally (now, 0) e)
tally_more now new e none is = λ i. (is i, 0 + cond (is_some (none i)) 1 0)

pub drop_none : {X Y : Type 0} (g : X → Y) (xs : List X) (i : ℕ) → length xs ≤ i → drop i (map g xs) ≡ []
drop_none g [] zero h = refl
drop_none g [] (suc i) h = refl
drop_none g (x ∷ xs) zero h = absurd (omega arith)
drop_none g (x ∷ xs) (suc i) h = drop_none g xs i (omega arith)

-- ---- an import

-- the line of the first entry, and those of the others
refused_first : (now : Held) (x : TextEntry) (xs : List TextEntry) →
    refused_line (refusal_in now (entry_in x).0 (entry_in x).1 false) (entry_view x) ++ refused_lines (write_done now (entry_in x).0 (entry_in x).1 false) (map entry_view xs)
    ≡ refused_lines now (map entry_view (x ∷ xs))
refused_first now x xs = refl

pub lines_more : (xs : List TextEntry) (i : ℕ) (x : TextEntry) (now new : Held) (a b total : List ℕ) → drop i xs ≡ x ∷ drop (i + 1) xs →
    new ≡ write_done now (entry_in x).0 (entry_in x).1 false → b ≡ a ++ refused_line (refusal_in now (entry_in x).0 (entry_in x).1 false) (entry_view x) →
    a ++ refused_lines now (map entry_view (drop i xs)) ≡ total → b ++ refused_lines new (map entry_view (drop (i + 1) xs)) ≡ total
lines_more xs i x now new a b total cut done line so_far =
    ap (λ t. t ++ refused_lines new (map entry_view (drop (i + 1) xs))) line
    ∙ append_assoc a (refused_line (refusal_in now (entry_in x).0 (entry_in x).1 false) (entry_view x)) (refused_lines new (map entry_view (drop (i + 1) xs)))
    ∙ ap (λ h. a ++ (refused_line (refusal_in now (entry_in x).0 (entry_in x).1 false) (entry_view x) ++ refused_lines h (map entry_view (drop (i + 1) xs)))) done
    ∙ ap (λ t. a ++ t) (refused_first now x (drop (i + 1) xs))
    ∙ ap (λ ys. a ++ refused_lines now (map entry_view ys)) (sym cut) ∙ so_far

pub lines_end : (xs : List TextEntry) (i : ℕ) (now : Held) (a total : List ℕ) → length xs ≤ i → a ++ refused_lines now (map entry_view (drop i xs)) ≡ total → a ≡ total
lines_end xs i now a total none so_far = sym (append-nil a) ∙ ap (λ ys. a ++ refused_lines now (map entry_view ys)) (sym (drop_all i xs none)) ∙ so_far

pub all_imported : (old now : Held) (n : ℕ) (xs : List TextEntry) (i : ℕ) → length xs ≤ i → ◌≡◌ {A = Held × ℕ} (now, n) (imported old (take i (map entry_in xs))) →
    ◌≡◌ {A = Held × ℕ} (now, n) (imported old (map entry_in xs))
all_imported old now n xs i none so_far = so_far ∙ ap (imported old) (take_all i (map entry_in xs) (omega (arith, none, length-map xs entry_in)))

-- entries without their lines
pub pairs_are : (xs : List TextEntry) → map entry_in xs ≡ map pair_of (map entry_view xs)
pairs_are [] = refl
pairs_are (x ∷ xs) = ap (λ es. entry_in x ∷ es) (pairs_are xs)

pub import_ends : (end : ToolEnd) (a b : Option (List ℕ)) (old mid new : Held) (n : ℕ) (xs : List TextEntry) (lines : List ℕ) → ◌≡◌ {A = Held × ℕ} (mid, n) (imported old (map entry_in xs)) →
    lines ≡ refused_lines old (map entry_view xs) → new ≡ saved mid → PrintsText a b (lines ++ count_text n) (count_status n) end →
    Changes (record { session = old; errors = a }) (record { session = new; errors = b }) (named_import_effect old (map entry_view xs)) (LacksMemoryToName old (map pair_of (map entry_view xs))) end
import_ends end a b old mid new n xs lines done are is prints =
    let all = done ∙ ap (imported old) (pairs_are xs) in
    text_ends end a b old new (named_import_effect old (map entry_view xs)) _ (is ∙ ap (λ (p : Held × ℕ). saved p.0) all)
    (subst (λ t. PrintsText a b t (named_import_effect old (map entry_view xs)).status end) (ap (λ t. t ++ count_text n) are ∙ ap (λ (p : Held × ℕ). refused_lines old (map entry_view xs) ++ count_text p.1) all)
    (subst (λ s. PrintsText a b (lines ++ count_text n) s end) (ap (λ (p : Held × ℕ). count_status p.1) all) prints))

pub one_written : (h now : Held) (e : Entry) → None ≡ refusal_in h e.0 e.1 false → now ≡ write_done h e.0 e.1 false → ◌≡◌ {A = Held × ℕ} (now, 0) (imported h (e ∷ []))
unfolding imported
one_written h now e none is = tally_more h now e none is
