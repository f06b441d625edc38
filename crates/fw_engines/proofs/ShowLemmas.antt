-- What one write leaves is what the bytes print.
use Rattle.std.proofs.Common.{◌≡◌, ◌⊎◌, ℕ, List, [], ◌-◌, Option, Some, None, length, take, drop, arith, length-drop, sym, subst, inl, inr}
use Rattle.std.specs.Prelude.{MatchOption}
use Rattle.std.proofs.lemmas.List.{take_all}
use Rattle.std.proofs.KnownBytes.{Appends-nil, Keeps-refl}
use Rattle.std.specs.Io.KnownBytes.{Appends, Keeps}
use Rattle.envimg_core.specs.Pieces.{entries_of, vars_of}
use Rattle.envimg_core.specs.declared.geometry.Order.{Order}
use Rattle.envimg_core.specs.declared.state.CopyState.{CopyState}
use Rattle.envimg_core.specs.declared.state.CopyState.TheVariants.{Good}
use Rattle.fw_engines.specs.Shown.{shown, shown_in, state_shown, listing}
use Rattle.fw_engines.specs.Streams.{AppendsPart}
use Rattle.fw_engines.specs.Tool.{Printed, PrintsText, Lists}
use Rattle.fw_engines.proofs.WriteLemmas.{nothing}
use Rattle.fw_engines.specs.declared.tool_end.ToolEnd.{ToolEnd}
use Rattle.fw_engines.specs.declared.tool_end.StreamFault.{StreamFault}
use Rattle.fw_engines.specs.declared.tool_end.StreamFault.TheVariants.{Write, Memory}

listed : (f : Option StreamFault) (s : ℕ) (w w' e : Option (List ℕ)) (text : List ℕ) →
    MatchOption f (Appends w w' text × (s ≡ 0)) (λ fault. (fault ≡ Write) × AppendsPart w w' text × (s ≡ 1)) ⊎ ((f ≡ Some Memory) × Keeps w w' × (s ≡ 1)) →
    Printed f (record { output = w; errors = e }) (record { output = w'; errors = e }) (record { output = text; errors = []; status = 0 }) s
listed None s w w' e text (inl p) = ((p.0, Appends-nil e), p.1)
listed None s w w' e text (inr q) = absurd (let bad : ◌≡◌ {A = Option StreamFault} None (Some Memory) = q.0 in cc)
listed (Some fault) s w w' e text (inl p) =
    subst (λ x. Printed (Some x) (record { output = w; errors = e }) (record { output = w'; errors = e }) (record { output = text; errors = []; status = 0 }) s) (sym p.0) (inl (p.1, nothing e), p.2)
listed (Some fault) s w w' e text (inr q) =
    subst (λ x. Printed x (record { output = w; errors = e }) (record { output = w'; errors = e }) (record { output = text; errors = []; status = 0 }) s) (sym q.0) ((q.1, Keeps-refl e), q.2)

complained : (f : Option StreamFault) (s : ℕ) (w e e' : Option (List ℕ)) (text : List ℕ) →
    MatchOption f (Appends e e' text × (s ≡ 1)) (λ fault. (fault ≡ Write) × AppendsPart e e' text × (s ≡ 1)) →
    Printed f (record { output = w; errors = e }) (record { output = w; errors = e' }) (record { output = []; errors = text; status = 1 }) s
complained None s w e e' text p = ((Appends-nil w, p.0), p.1)
complained (Some fault) s w e e' text p =
    subst (λ x. Printed (Some x) (record { output = w; errors = e }) (record { output = w; errors = e' }) (record { output = []; errors = text; status = 1 }) s) (sym p.0) (inr (nothing w, p.1), p.2)

pub shown_good : (order : Order) (bytes : List ℕ) (flag : ℕ) (w w' e : Option (List ℕ)) (end : ToolEnd) → state_shown order bytes ≡ Good flag → Lists w w' (listing (vars_of (entries_of (drop 4 bytes)))) end → Printed end.fault (record { output = w; errors = e }) (record { output = w'; errors = e }) (shown order bytes) end.status
shown_good order bytes flag w w' e end is p =
    subst (λ s. Printed end.fault (record { output = w; errors = e }) (record { output = w'; errors = e }) (shown_in s bytes) end.status) (sym is) (listed end.fault end.status w w' e (listing (vars_of (entries_of (drop 4 bytes)))) p)

pub shown_bad : (order : Order) (bytes text : List ℕ) (state : CopyState) (w e e' : Option (List ℕ)) (end : ToolEnd) → state_shown order bytes ≡ state → shown_in state bytes ≡ record { output = []; errors = text; status = 1 } →
    PrintsText e e' text 1 end → Printed end.fault (record { output = w; errors = e }) (record { output = w; errors = e' }) (shown order bytes) end.status
shown_bad order bytes text state w e e' end is means p =
    subst (λ s. Printed end.fault (record { output = w; errors = e }) (record { output = w; errors = e' }) (shown_in s bytes) end.status) (sym is)
    (subst (λ t. Printed end.fault (record { output = w; errors = e }) (record { output = w; errors = e' }) t end.status) (sym means) (complained end.fault end.status w e e' text p))

-- the bytes after the first four, as a slice to the end
pub shown_good_slice : (order : Order) (bytes : List ℕ) (flag : ℕ) (w w' e : Option (List ℕ)) (end : ToolEnd) → state_shown order bytes ≡ Good flag → Lists w w' (listing (vars_of (entries_of (take (length bytes - 4) (drop 4 bytes))))) end → Printed end.fault (record { output = w; errors = e }) (record { output = w'; errors = e }) (shown order bytes) end.status
shown_good_slice order bytes flag w w' e end is p =
    shown_good order bytes flag w w' e end is (subst (λ a. Lists w w' (listing (vars_of (entries_of a))) end) (take_all (length bytes - 4) (drop 4 bytes) (omega (arith, length-drop 4 bytes))) p)
