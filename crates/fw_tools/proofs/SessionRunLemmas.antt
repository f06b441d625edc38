-- How a dry run is left, put together.
use Rattle.std.proofs.Common.{◌≡◌, ℕ, Bool, true, false, List, Option, Some, None, inl, inr, subst}
use Rattle.std.specs.Prelude.{MatchOption}
use Rattle.env_session.specs.Session.{Held}
use Rattle.fw_session.specs.declared.session_end.SessionEnding.{SessionEnding}
use Rattle.fw_files.specs.Copies.{warned_of}
use Rattle.fw_files.specs.Locks.{HasWaited}
use Rattle.fw_files.specs.declared.source.Source.{Source}
use Rattle.env_session.specs.declared.session.Stored.{Stored}
use Rattle.fw_tools.specs.Said.{SaysSome}
use Rattle.fw_files.specs.WrittenBack.{AreKept, AreLeft, AreSafe, Devices}
use Rattle.envimg_core.specs.declared.choice.Choice.TheVariants.{Second}
use Rattle.fw_tools.proofs.SaidLemmas.{said_then, waited_said}
use Rattle.fw_tools.specs.SessionRun.{ClosesDryRun, Reports, WaitsAndWarns, text_for}
use Rattle.fw_engines.specs.Streams.{AppendsFront}
use Rattle.fw_tools.proofs.WarnLemmas.{may_warn}

-- the copies are left as they are
pub reported : (kept : Bool) (end : SessionEnding) (source : Source) (after : Held) (devices : Devices) (old new : Option (List ℕ)) (status : ℕ) → kept ≡ false →
    Reports (text_for end) old new status → AreLeft devices → ClosesDryRun kept end source after devices old new status
reported false end source after devices old new status is reports same = (reports, same)
reported true end source after devices old new status is reports same = absurd cc

-- once the copies are written, for which locks may have been waited for, and a warning printed
pub reported_after : (kept : Bool) (end : SessionEnding) (source : Source) (after : Held) (devices : Devices) (old said new : Option (List ℕ)) (status : ℕ) → kept ≡ true →
    AreSafe Second source after devices → WaitsAndWarns old said → Reports (text_for end) said new status → AreKept source after devices →
    ClosesDryRun kept end source after devices old new status
reported_after true end source after devices old said new status is safe says reports written = (safe, inr (said, says, reports, written))
reported_after false end source after devices old said new status is safe says reports written = absurd cc

pub written_after : {T : Type 0} (done : Option T) (source : Source) (stored : Stored) (a b c : Option (List ℕ)) → HasWaited a b →
    MatchOption done (SaysSome b c) (λ _. AppendsFront b c (warned_of source stored)) → MatchOption done (SaysSome a c) (λ _. WaitsAndWarns a c)
written_after None source stored a b c waited said = said_then a b c (waited_said a b waited) said
written_after (Some v) source stored a b c waited warned = (b, waited, may_warn source stored b c warned)

pub not_written : (kept : Bool) (end : SessionEnding) (source : Source) (after : Held) (devices : Devices) (old new : Option (List ℕ)) (status : ℕ) → kept ≡ true →
    AreSafe Second source after devices → SaysSome old new → status ≡ 1 → ClosesDryRun kept end source after devices old new status
not_written true end source after devices old new status is safe says one = (safe, inl (says, one))
not_written false end source after devices old new status is safe says one = absurd cc

pub nothing_told : (told : Option (List ℕ)) (old new : Option (List ℕ)) (status : ℕ) → None ≡ told → new ≡ old → status ≡ 0 → Reports told old new status
nothing_told told old new status none same zero = subst (λ t. Reports t old new status) none (same, zero)

pub text_told : (text : List ℕ) (told : Option (List ℕ)) (old new : Option (List ℕ)) (status : ℕ) → Some text ≡ told → AppendsFront old new text → status ≡ 1 → Reports told old new status
text_told text told old new status is said one = subst (λ t. Reports t old new status) is (said, one)
