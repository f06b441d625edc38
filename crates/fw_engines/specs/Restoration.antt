-- What a restore does to a session (docs/tools.md, "The tools over a session").
use Rattle.std.specs.Prelude.{◌≡◌, ◌⊎◌, ℕ, Bool, false, true, List, [], ◌∷◌, ◌++◌, codes, map, Option, Some, None, option_copied, if◌then◌else◌}
use Rattle.std.specs.List.{flat_map}
use Rattle.std.specs.Str.{bytes_eq}
use Rattle.std.specs.FinMap.{entries, get}
use Rattle.env_session.specs.Requests.{refusal_in}
use Rattle.env_session.specs.Session.{Held, last_saved, saved, side_of, written}
use Rattle.envcfg_core.specs.Entries.{Entry}
use Rattle.envimg_core.specs.Environment.{Environment}
use Rattle.envvars_core.specs.Attributes.{flags_name}
use Rattle.envvars_core.specs.Olds.{same_value}
use Rattle.envvars_core.specs.Refusals.{given}
use Rattle.envvars_core.specs.declared.refusals.Refusal.{Refusal}
use Rattle.fw_engines.specs.Changes.{Effect, silent, text_in_line}
use Rattle.fw_engines.specs.declared.restoration.ForcedWrite.{ForcedWrite}

abbrev pub is_flags : Entry → Bool
is_flags e = bytes_eq e.name flags_name

-- the entry, if it is named `.flags`, or if it isn't
abbrev pub kept : Bool → Entry → List Entry
kept true e = if is_flags e then e ∷ [] else []
kept false e = if is_flags e then [] else e ∷ []

-- in their order, but `.flags` comes last: its attributes are no reason to refuse another
abbrev pub flags_last : List Entry → List Entry
flags_last es = flat_map (kept false) es ++ flat_map (kept true) es

-- the name without a value; it is in no line
abbrev pub deletion : List ℕ → Entry
deletion name = record { name = name; value = None; line = 0 }

abbrev pub names_of : Environment → List (List ℕ)
names_of env = map (λ p. p.0) (entries env)

-- what a restore writes: every variable that is there is deleted, and then the text's entries come
abbrev pub restoring : Environment → List Entry → List Entry
restoring env es = map deletion (names_of env) ++ flags_last es

abbrev pub refused_in_line : Refusal → Entry → Held → Effect
refused_in_line r e h = record { text = text_in_line r e; status = 1; session = h }

abbrev pub unless_refused_in : Option Refusal → Entry → Held → Effect → Effect
unless_refused_in None e h rest = rest
unless_refused_in (Some r) e h rest = refused_in_line r e h

-- forced writes in their order, and a save; the first refusal ends it, and nothing is saved
abbrev pub forced_effect : Held → List Entry → Effect
forced_effect h [] = silent (saved h)
forced_effect h (e ∷ es) = unless_refused_in (refusal_in h e.name e.value true) e h (forced_effect (written h e.name e.value) es)

-- a text without an entry is refused
abbrev pub restore_effect : Held → List Entry → Effect
restore_effect h [] = record { text = codes "## Error: the text has no entry, and nothing is restored" ++ 10 ∷ []; status = 1; session = h }
restore_effect h (e ∷ es) = forced_effect h (restoring h.now.env (e ∷ es))

-- ---- where memory may run out

-- a forced write that no check refuses and that changes a value
pub record IsForcedChange (h : Held) (e : Entry) : Type 0 where
  pub accepted : refusal_in h e.name e.value true ≡ None
  pub changes : same_value (get h.now.env e.name) (given e.value) ≡ false

-- these writes were done, none of which is refused
abbrev pub WritesAll : Held → List Entry → Held → Type 0
WritesAll old [] new = new ≡ old
WritesAll old (e ∷ es) new = (refusal_in old e.name e.value true ≡ None) × WritesAll (written old e.name e.value) es new

abbrev pub NeedsMemoryToForce : Held → List Entry → Type 0
NeedsMemoryToForce h [] = last_saved (side_of h) h.marks ≡ false
NeedsMemoryToForce h (e ∷ es) = IsForcedChange h e

-- memory ran out after a prefix of these writes; the session is what they leave
abbrev pub LacksMemoryToForce : Held → List Entry → Held → Type 0
LacksMemoryToForce old es new = (done : List Entry) × (rest : List Entry) × (es ≡ done ++ rest) × WritesAll old done new × NeedsMemoryToForce new rest

-- or before them, while the writes were put in their order
abbrev pub LacksMemoryToRestore : Held → List Entry → Held → Type 0
LacksMemoryToRestore old es new = (new ≡ old) ⊎ LacksMemoryToForce old (restoring old.now.env es) new

-- a write of the code, as an entry
abbrev pub write_view : ForcedWrite → Entry
write_view w = record { name = w.name.now; value = option_copied w.value; line = w.line }
