-- What setenv, a set script and an import do to a session (docs/tools.md, "The tools over a session").
use Rattle.std.specs.Prelude.{◌≡◌, ◌⊎◌, ◌<◌, ℕ, zero, suc, List, [], ◌∷◌, ◌++◌, Option, Some, None, length, map, take, drop, false, codes, is_some, IsTrue}
use Rattle.std.specs.Fmt.{decimal}
use Rattle.std.specs.Io.KnownBytes.{Appends, Keeps}
use Rattle.env_session.specs.Session.{Held, last_saved, side_of, written, saved}
use Rattle.env_session.specs.Requests.{IsChange, refusal_in, imported, write_done}
use Rattle.envcfg_core.specs.Entries as text_entries
use Rattle.envimg_core.specs.Pieces.{Entry}
use Rattle.envvars_core.specs.declared.refusals.Refusal.{Refusal}
use Rattle.envvars_core.specs.Refusals.{before_name, refusal_text}
use Rattle.text_parts.specs.Words.{spaced}
use Rattle.fw_engines.specs.Streams.{AppendsPart}
use Rattle.fw_engines.specs.declared.tool_end.ToolEnd.{ToolEnd}
use Rattle.fw_engines.specs.declared.tool_end.StreamFault.{StreamFault}
use Rattle.fw_engines.specs.declared.tool_end.StreamFault.TheVariants.{Read, Write, Memory}

-- what a tool does: its text on standard error, its status, and the session afterwards
pub record Effect : Type 0 where
  pub text : List ℕ
  pub status : ℕ
  pub session : Held

-- what a tool changes: the session, and what standard error holds if that is known
pub record Changing : Type 0 where
  pub session : Held
  pub errors : Option (List ℕ)

-- a session left without any output
abbrev pub silent : Held → Effect
silent h = record { text = []; status = 0; session = h }

-- a refusal printed
abbrev pub refused_by : Refusal → List ℕ → Held → Effect
refused_by r name h = record { text = refusal_text r name; status = 1; session = h }

-- the refusal printed if there is one, with nothing changed; else what follows
abbrev pub unless_refused : Option Refusal → List ℕ → Held → Effect → Effect
unless_refused None name h rest = rest
unless_refused (Some r) name h rest = refused_by r name h

-- an unforced write of a value, and a save; an empty value deletes
abbrev pub set_effect : Held → List ℕ → List ℕ → Effect
set_effect h name value = unless_refused (refusal_in h name (Some value) false) name h (silent (saved (written h name (Some value))))

-- the lines in their order as unforced writes, and a save; the first refusal ends it, and nothing is saved
abbrev pub script_effect : Held → List Entry → Effect
script_effect h [] = silent (saved h)
script_effect h (e ∷ es) = unless_refused (refusal_in h e.0 e.1 false) e.0 h (script_effect (written h e.0 e.1) es)

-- how many entries were refused
abbrev pub count_text : ℕ → List ℕ
count_text zero = []
count_text (suc n) = codes "## Error: " ++ decimal (suc n) ++ (codes " entries refused" ++ 10 ∷ [])

abbrev pub count_status : ℕ → ℕ
count_status zero = 0
count_status (suc n) = 1

-- a refusal's text, with the line of the entry that is refused
abbrev pub text_in_line : Refusal → text_entries.Entry → List ℕ
text_in_line r e = before_name r ++ e.name ++ codes "\" in line " ++ decimal e.line ++ 10 ∷ []

abbrev pub refused_line : Option Refusal → text_entries.Entry → List ℕ
refused_line None e = []
refused_line (Some r) e = text_in_line r e

-- the entries that are refused, a line each
abbrev pub refused_lines : Held → List text_entries.Entry → List ℕ
refused_lines h [] = []
refused_lines h (e ∷ es) = refused_line (refusal_in h e.name e.value false) e ++ refused_lines (write_done h e.name e.value false) es

-- an entry without its line
abbrev pub pair_of : text_entries.Entry → Entry
pair_of e = (e.name, e.value)

-- each entry in its order as an unforced write, and a save; then the count of those that were refused
abbrev pub import_effect : Held → List Entry → Effect
import_effect h es = record { text = count_text (imported h es).1; status = count_status (imported h es).1; session = saved (imported h es).0 }

-- the same, and before the count those that were refused
abbrev pub named_import_effect : Held → List text_entries.Entry → Effect
named_import_effect h es =
    let done = imported h (map pair_of es) in
    record { text = refused_lines h es ++ count_text done.1; status = count_status done.1; session = saved done.0 }

-- where memory may run out: at a write that no check refuses and that changes a value, or after the last one
-- at a save of a copy that wasn't saved since the last mark
abbrev pub NeedsMemory : Held → List Entry → Type 0
NeedsMemory h [] = last_saved (side_of h) h.marks ≡ false
NeedsMemory h (e ∷ es) = IsChange h e

-- memory ran out at such a point after a prefix of these writes, of which `refused` were refused; `new` is
-- what they leave
abbrev pub LacksMemory : Held → List Entry → ℕ → Held → Type 0
LacksMemory old writes refused new = (k : ℕ) × ((new, refused) ≡ imported old (take k writes)) × NeedsMemory new (drop k writes)

-- or, if there are several, while words were joined
abbrev pub LacksMemoryToSet : Held → List ℕ → List (List ℕ) → Held → Type 0
LacksMemoryToSet old name words new = ((1 < length words) × (new ≡ old)) ⊎ LacksMemory old ((name, Some (spaced words)) ∷ []) 0 new

-- an import goes on after what is refused
abbrev pub LacksMemoryToImport : Held → List Entry → Held → Type 0
LacksMemoryToImport old writes new = (refused : ℕ) × LacksMemory old writes refused new

-- where those are named, memory is needed for their lines too
abbrev pub NeedsMemoryToName : Held → List Entry → Type 0
NeedsMemoryToName h [] = last_saved (side_of h) h.marks ≡ false
NeedsMemoryToName h (e ∷ es) = IsChange h e ⊎ IsTrue (is_some (refusal_in h e.0 e.1 false))

abbrev pub LacksMemoryToName : Held → List Entry → Held → Type 0
LacksMemoryToName old writes new =
    (k : ℕ) × (refused : ℕ) × ((new, refused) ≡ imported old (take k writes)) × NeedsMemoryToName new (drop k writes)

-- how a tool that changes a session ends. If memory ran out, nothing was printed, no copy has changed, and a
-- prefix of its writes is done, as `lacks` states it
abbrev pub Ends : Option StreamFault → Changing → Changing → Effect → (Held → Type 0) → ℕ → Type 0
Ends None old new effect lacks status = Appends old.errors new.errors effect.text × (status ≡ effect.status) × (new.session ≡ effect.session)
Ends (Some Write) old new effect lacks status = AppendsPart old.errors new.errors effect.text × (status ≡ 1) × (new.session ≡ effect.session)
Ends (Some Read) old new effect lacks status = ⊥
Ends (Some Memory) old new effect lacks status = Keeps old.errors new.errors × (status ≡ 1) × lacks new.session

abbrev pub Changes : Changing → Changing → Effect → (Held → Type 0) → ToolEnd → Type 0
Changes old new effect lacks end = Ends end.fault old new effect lacks end.status
