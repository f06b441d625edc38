-- A warning that a copy is written over other data, as it is known of what was written.
use Rattle.std.proofs.Common.{◌≡◌, ℕ, Bool, true, false, List, [], Option, Some, None, codes, inl, inr, refl, subst}
use Rattle.std.specs.Prelude.{if◌then◌else◌}
use Rattle.env_session.specs.declared.session.Stored.{Stored}
use Rattle.envimg_core.specs.Geometry.{Shape}
use Rattle.fw_engines.specs.Streams.{AppendsFront}
use Rattle.fw_files.specs.Copies.{over_data, warned_of, warning_by}
use Rattle.fw_files.specs.declared.copies.ReadCopy.{ReadCopy}
use Rattle.fw_files.specs.declared.source.Source.{Source}
use Rattle.fw_tools.specs.Said.{Says, SaysSome}
use Rattle.fw_engines.specs.declared.tool_end.ToolEnd.{ToolEnd}
use Rattle.env_session.specs.Session.{Held, bytes_of}
use Rattle.envimg_core.specs.declared.choice.Choice.{Choice}
use Rattle.fw_files.specs.WrittenBack.{AreKept, AreLeft, AreSafe, AreWritten, CallsOn, Devices, LeavesAtAnyMoment}
use Rattle.fw_tools.specs.Closing.{Closes, IsWarning, MayWarn}

by_choice : (p q : Bool) → IsWarning (if p then over_data (codes "first") else if q then over_data (codes "second") else [])
by_choice true q = inr (inl refl)
by_choice false true = inr (inr refl)
by_choice false false = inl refl

is_warning : (shape : Shape) (first : List ℕ) (second : Option ReadCopy) (x y : Bool) → IsWarning (warning_by shape first second x y)
is_warning shape first None x y = inl refl
is_warning shape first (Some copy) x y = by_choice _ _

pub may_warn : (source : Source) (stored : Stored) (a b : Option (List ℕ)) → AppendsFront a b (warned_of source stored) → MayWarn a b
may_warn source stored a b p = (warned_of source stored, is_warning source.geometry source.first.bytes.items source.second _ _, p)

-- the copies were written, perhaps after a warning
pub kept : (kept : Bool) (last : Choice) (source : Source) (session : Held) (end : ToolEnd) (devices : Devices) (old warned new : Option (List ℕ)) (status : ℕ) → kept ≡ true →
    AreSafe last source session devices → MayWarn old warned → Says end.fault warned new → status ≡ end.status → AreKept source session devices →
    Closes kept last source session end devices old new status
kept true last source session end devices old warned new status is safe warns said same written = (safe, inr (warned, warns, said, same, written))
kept false last source session end devices old warned new status is safe warns said same written = absurd cc

-- or not all of them
pub broken_off : (kept : Bool) (last : Choice) (source : Source) (session : Held) (end : ToolEnd) (devices : Devices) (old new : Option (List ℕ)) (status : ℕ) → kept ≡ true →
    AreSafe last source session devices → SaysSome old new → status ≡ 1 → Closes kept last source session end devices old new status
broken_off true last source session end devices old new status is safe said one = (safe, inl (said, one))
broken_off false last source session end devices old new status is safe said one = absurd cc

pub left : (kept : Bool) (last : Choice) (source : Source) (session : Held) (end : ToolEnd) (devices : Devices) (old new : Option (List ℕ)) (status : ℕ) → kept ≡ false →
    AreLeft devices → Says end.fault old new → status ≡ end.status → Closes kept last source session end devices old new status
left false last source session end devices old new status is same said ends = (said, ends, same)
left true last source session end devices old new status is same said ends = absurd cc

-- what is known of the copies of a closed session
pub safe_of : (start : List ℕ) (last : Choice) (source : Source) (session : Held) (stored : Stored) (calls : CallsOn) → stored.first.items ≡ session.now.first → bytes_of stored.second ≡ session.now.second →
    LeavesAtAnyMoment start last source stored.first.items (bytes_of stored.second) calls → LeavesAtAnyMoment start last source session.now.first session.now.second calls
safe_of start last source session stored calls first second safe =
    subst (λ s. LeavesAtAnyMoment start last source session.now.first s calls) second (subst (λ f. LeavesAtAnyMoment start last source f (bytes_of stored.second) calls) first safe)

pub written_of : (start : List ℕ) (source : Source) (session : Held) (stored : Stored) (calls : CallsOn) → stored.first.items ≡ session.now.first → bytes_of stored.second ≡ session.now.second →
    AreWritten start source stored.first.items (bytes_of stored.second) calls → AreWritten start source session.now.first session.now.second calls
written_of start source session stored calls first second written =
    subst (λ s. AreWritten start source session.now.first s calls) second (subst (λ f. AreWritten start source f (bytes_of stored.second) calls) first written)
