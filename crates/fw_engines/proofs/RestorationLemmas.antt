-- Forced writes one after the other, and how a restore ends.
use Rattle.std.proofs.Common.{◌≡◌, ◌≢◌, ℕ, zero, suc, ◌+◌, ◌<◌, length, drop, map, get_or, arith, List, [], ◌∷◌, ◌++◌, Option, Some, None, true, false, cond, refl, sym, ap, ◌∙◌, subst, append_assoc}
use Rattle.std.specs.Prelude.{MatchOption, is_some, Result, Err, IfSome, IfNone, IsTrue, IsOk}
use Rattle.std.specs.FinMap as env
use Rattle.env_session.proofs.LawLemmas.{change_from}
use Rattle.envimg_core.specs.Geometry.{room_of}
use Rattle.envvars_core.proofs.CheckLemmas.{never_memory}
use Rattle.envvars_core.specs.Olds.{same_value}
use Rattle.envvars_core.specs.Refusals.{given}
use Rattle.envvars_core.specs.declared.refusals.Refusal.TheVariants as refusal
use Rattle.std.proofs.KnownBytes.{Appends-nil, Keeps-refl}
use Rattle.env_session.specs.Session.{Held, last_saved, side_of, written, saved}
use Rattle.env_session.specs.Requests.{refusal_in, write_done}
use Rattle.envcfg_core.specs.Entries.{Entry, entry_view}
use Rattle.envcfg_core.specs.declared.entry.TextEntry.{TextEntry}
use Rattle.envvars_core.specs.declared.refusals.Refusal.{Refusal}
use Rattle.fw_engines.specs.Changes.{Changing, Effect, Ends, Changes, silent}
use Rattle.fw_engines.specs.Restoration.{IsForcedChange, LacksMemoryToForce, LacksMemoryToRestore, WritesAll, forced_effect, refused_in_line, restore_effect, restoring, unless_refused_in}
use Rattle.fw_engines.specs.Tool.{PrintsText}
use Rattle.fw_engines.specs.declared.tool_texts.TheConstants.{NO_ENTRY}
use Rattle.fw_engines.proofs.ChangeLemmas.{text_ends}
use Rattle.fw_engines.specs.declared.tool_end.ToolEnd.{ToolEnd}
use Rattle.fw_engines.specs.declared.tool_end.StreamFault.{StreamFault}
use Rattle.fw_engines.specs.declared.tool_end.StreamFault.TheVariants.{Read, Write, Memory}

writes-append : (old mid new : Held) (xs ys : List Entry) → WritesAll old xs mid → WritesAll mid ys new → WritesAll old (xs ++ ys) new
writes-append old mid new [] ys p q = subst (λ h. WritesAll h ys new) p q
writes-append old mid new (x ∷ xs) ys p q = (p.0, writes-append (written old x.name x.value) mid new xs ys p.1 q)

-- a prefix of all these writes was done, and the rest is left
abbrev pub IsForced : Held → List Entry → List Entry → Held → Type 0
IsForced old all rest now = (done : List Entry) × (all ≡ done ++ rest) × WritesAll old done now

pub none_forced : (old : Held) (all : List Entry) → IsForced old all all old
none_forced old all = ([], refl, refl)

pub cut_forced : (old now : Held) (all rest left : List Entry) → rest ≡ left → IsForced old all rest now → IsForced old all left now
cut_forced old now all rest left cut f = subst (λ r. IsForced old all r now) cut f

pub force_accepted : (h : Held) (e : Entry) → None ≡ refusal_in h e.name e.value true → write_done h e.name e.value true ≡ written h e.name e.value
force_accepted h e is = ap (λ o. cond (is_some o) h (written h e.name e.value)) (sym is)

pub force_refused : (h : Held) (e : Entry) (r : Refusal) → Some r ≡ refusal_in h e.name e.value true → write_done h e.name e.value true ≡ h
force_refused h e r is = ap (λ o. cond (is_some o) h (written h e.name e.value)) (sym is)

pub one_forced : (old now new : Held) (all rest : List Entry) (e : Entry) → IsForced old all (e ∷ rest) now → None ≡ refusal_in now e.name e.value true →
    new ≡ write_done now e.name e.value true → IsForced old all rest new
one_forced old now new all rest e f none is = (
  f.0 ++ e ∷ [],
  f.1 ∙ sym (append_assoc f.0 (e ∷ []) rest),
  writes-append old now new f.0 (e ∷ []) f.2 (sym none, is ∙ force_accepted now e none),
)

pub forced_more : (now new : Held) (e : Entry) (es : List Entry) → None ≡ refusal_in now e.name e.value true → new ≡ write_done now e.name e.value true → forced_effect now (e ∷ es) ≡ forced_effect new es
forced_more now new e es none is =
    ap (λ o. unless_refused_in o e now (forced_effect (written now e.name e.value) es)) (sym none) ∙ ap (λ h. forced_effect h es) (sym (is ∙ force_accepted now e none))

pub forced_refused : (now : Held) (e : Entry) (es : List Entry) (r : Refusal) → Some r ≡ refusal_in now e.name e.value true → forced_effect now (e ∷ es) ≡ refused_in_line r e now
forced_refused now e es r some = ap (λ o. unless_refused_in o e now (forced_effect (written now e.name e.value) es)) (sym some)

-- ---- if memory ran out

pub forced_change_of : (h : Held) (e : Entry) (r : Result (Unit {0}) Refusal) → IfSome (refusal_in h e.name e.value true) (λ x. r ≡ Err x) →
    IfNone (refusal_in h e.name e.value true) (IsTrue (same_value (env.get h.now.env e.name) (given e.value)) → IsOk r) → r ≡ Err refusal.Memory → IsForcedChange h e
forced_change_of h e r refused idle is =
    let got = change_from (refusal_in h e.name e.value true) (same_value (env.get h.now.env e.name) (given e.value)) r
    (λ x some. never_memory h.now.env h.defaults.env (room_of h.shape) e.name e.value true x some) refused idle is in
    record { accepted = got.0; changes = got.1 }

pub at_force : (old now new : Held) (all rest : List Entry) (e : Entry) → IsForced old all (e ∷ rest) now → IsForcedChange now e → new ≡ now → LacksMemoryToForce old all new
at_force old now new all rest e f change is =
    subst (LacksMemoryToForce old all) (sym is) (f.0, e ∷ rest, f.1, f.2, change)

at_last_save : (old now new : Held) (all : List Entry) → IsForced old all [] now → last_saved (side_of now) now.marks ≡ false → new ≡ now → LacksMemoryToForce old all new
at_last_save old now new all f unsaved is =
    subst (LacksMemoryToForce old all) (sym is) (f.0, [], f.1, f.2, unsaved)

-- ---- a save without a text

pub saved_ends : (end : ToolEnd) (a : Option (List ℕ)) (old mid new : Held) (effect : Effect) (all : List Entry) → IsForced old all [] mid → effect ≡ silent (saved mid) →
    MatchOption end.fault ((new ≡ saved mid) × (end.status ≡ 0)) (λ fault. (fault ≡ Memory) × (new ≡ mid) × (last_saved (side_of mid) mid.marks ≡ false) × (end.status ≡ 1)) →
    Changes (record { session = old; errors = a }) (record { session = new; errors = a }) effect (LacksMemoryToForce old all) end
saved_ends end a old mid new effect all f is p =
    subst (λ d. Ends end.fault (record { session = old; errors = a }) (record { session = new; errors = a }) d (LacksMemoryToForce old all) end.status) (sym is) (by_fault end.fault p)
  where
    by_fault : (o : Option StreamFault) → MatchOption o ((new ≡ saved mid) × (end.status ≡ 0)) (λ fault. (fault ≡ Memory) × (new ≡ mid) × (last_saved (side_of mid) mid.marks ≡ false) × (end.status ≡ 1)) →
        Ends o (record { session = old; errors = a }) (record { session = new; errors = a }) (silent (saved mid)) (LacksMemoryToForce old all) end.status
    by_fault None h = (Appends-nil a, h.1, h.0)
    by_fault (Some x) h =
        subst (λ y. Ends (Some y) (record { session = old; errors = a }) (record { session = new; errors = a }) (silent (saved mid)) (LacksMemoryToForce old all) end.status) (sym h.0)
        (Keeps-refl a, h.3, at_last_save old mid new all f h.2 h.1)

-- what lacks memory in one way lacks it in a wider one
pub wider : (end : ToolEnd) (old new : Changing) (effect : Effect) (lacks more : Held → Type 0) → ((h : Held) → lacks h → more h) → Changes old new effect lacks end → Changes old new effect more end
wider end old new effect lacks more f p = by_fault end.fault p
  where
    by_fault : (o : Option StreamFault) → Ends o old new effect lacks end.status → Ends o old new effect more end.status
    by_fault None h = h
    by_fault (Some Write) h = h
    by_fault (Some Read) h = h
    by_fault (Some Memory) h = (h.0, h.1, f new.session h.2)

-- what is left of a list at an element, as it is seen
pub drop_cut : {X Y : Type 0} (g : X → Y) (xs : List X) (i : ℕ) (d : X) → i < length xs → drop i (map g xs) ≡ g (get_or xs i d) ∷ drop (i + 1) (map g xs)
drop_cut g [] i d h = absurd (omega (arith, h))
drop_cut g (y ∷ xs) zero d h = refl
drop_cut g (y ∷ xs) (suc i) d h =
    drop_cut g xs i d (omega (arith, h)) ∙ ap (λ (n : ℕ). g (get_or xs i d) ∷ drop n (g y ∷ map g xs)) (let k : suc (i + 1) ≡ suc i + 1 = omega arith in k)

-- ---- a text without an entry, and one with some

pub none_restored : (end : ToolEnd) (a b : Option (List ℕ)) (h : Held) (es : List TextEntry) → length es ≡ 0 →
    PrintsText a b NO_ENTRY.now 1 end →
    Changes (record { session = h; errors = a }) (record { session = h; errors = b }) (restore_effect h (map entry_view es)) (LacksMemoryToRestore h (map entry_view es)) end
none_restored end a b h [] none prints = text_ends end a b h h (restore_effect h []) (LacksMemoryToRestore h []) refl prints
none_restored end a b h (e ∷ es) none prints = absurd (omega (arith, none))

pub some_restored : (h : Held) (es : List TextEntry) → length es ≢ 0 → restore_effect h (map entry_view es) ≡ forced_effect h (restoring h.now.env (map entry_view es))
some_restored h [] some = absurd (some refl)
some_restored h (e ∷ es) some = refl
