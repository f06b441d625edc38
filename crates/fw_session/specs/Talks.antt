-- What the handling of a piece of input does to a talk.
use Rattle.std.specs.Io.KnownBytes.{Consumes}
use Rattle.std.specs.Prelude.{◌≡◌, ◌<◌, ◌≤◌, ℕ, Bool, true, false, List, [], ◌∷◌, ◌++◌, Option, length, Result, Ok, Err}
use Rattle.fw_session.specs.Input.{items_of}
use Rattle.hush_run.specs.Meaning.{Rules}
use Rattle.fw_session.specs.Turns.{NamedSession}
use Rattle.fw_session.specs.NamedSessions.{session_of}
use Rattle.fw_session.specs.Ends.{AllAnswered, CutShort, input_limit}
use Rattle.fw_session.specs.Handling.{Handled, HandledUntilCut, IsPending}
use Rattle.fw_session.specs.declared.talk.Talk.{Talk}
use Rattle.fw_session.specs.declared.session_end.SessionEnd.{SessionEnd}
use Rattle.fw_session.specs.declared.session_end.Stop.{Stop}
use Rattle.fw_session.specs.declared.session_end.SessionEnding.{SessionEnding}
use Rattle.fw_session.specs.declared.session_end.SessionEnding.TheVariants.{Done, ReadFault, TooLong, WriteFault, Memory}

-- a piece, all of which was handled; a block and a line wait as before
abbrev pub HandlesAll : Rules → List ℕ → Talk → Talk → Option (List ℕ) → Option (List ℕ) → Type 0
HandlesAll rules piece old new out out' =
    IsPending new.bytes.items new.start
    × Handled rules old.bytes.items piece new.bytes.items (session_of old) (session_of new) out out' old.written new.written

-- a line, whose bytes wait
abbrev pub HandlesLine : Rules → Talk → Talk → Option (List ℕ) → Option (List ℕ) → Bool → Type 0
HandlesLine rules old new out out' true = HandlesAll rules [] old new out out'
HandlesLine rules old new out out' false = HandledUntilCut rules old.bytes.items [] (session_of old) (session_of new) out out' old.written new.written

-- what was handled before memory ran out; what waits then is lost
abbrev pub HandlesSome : Rules → List ℕ → Talk → Talk → Option (List ℕ) → Option (List ℕ) → Type 0
HandlesSome rules piece old new out out' =
    (bytes : List ℕ) × (start : ℕ) × IsPending bytes start
    × Handled rules old.bytes.items piece bytes (session_of old) (session_of new) out out' old.written new.written

abbrev pub HandlesByte : Rules → ℕ → Talk → Talk → Option (List ℕ) → Option (List ℕ) → Result (Unit {0}) Stop → Type 0
HandlesByte rules byte old new out out' (Ok u) = HandlesAll rules (byte ∷ []) old new out out'
HandlesByte rules byte old new out out' (Err Stop.Memory) = HandlesSome rules [] old new out out'
HandlesByte rules byte old new out out' (Err Stop.Write) =
    HandledUntilCut rules old.bytes.items (byte ∷ []) (session_of old) (session_of new) out out' old.written new.written

abbrev pub HandlesPiece : Rules → List ℕ → Talk → Talk → Option (List ℕ) → Option (List ℕ) → Result (Unit {0}) Stop →
    Type 0
HandlesPiece rules piece old new out out' (Ok u) = HandlesAll rules piece old new out out'
HandlesPiece rules piece old new out out' (Err Stop.Memory) =
    (front : List ℕ) × (rest : List ℕ) × (piece ≡ front ++ rest) × HandlesSome rules front old new out out'
HandlesPiece rules piece old new out out' (Err Stop.Write) =
    (front : List ℕ) × (rest : List ℕ) × (piece ≡ front ++ rest) × (length rest < length piece)
    × HandledUntilCut rules old.bytes.items front (session_of old) (session_of new) out out' old.written new.written

-- what waits at the end of the input is answered
abbrev pub Finishes : Rules → NamedSession → List ℕ → Option (List ℕ) → Option (List ℕ) → ℕ → ℕ → NamedSession →
    SessionEnding → Type 0
Finishes rules h bytes out out' n n' h' Done = AllAnswered rules h (items_of bytes) out out' n n' h'
Finishes rules h bytes out out' n n' h' WriteFault = CutShort rules h (items_of bytes) out out' n n' h'
Finishes rules h bytes out out' n n' h' ReadFault = ⊥
Finishes rules h bytes out out' n n' h' TooLong = ⊥
Finishes rules h bytes out out' n n' h' Memory = ⊥

-- a fault of reading: what waits is not answered
abbrev pub LeavesOff : Talk → Option (List ℕ) → Option (List ℕ) → SessionEnd → Type 0
LeavesOff talk out out' end =
    (end.session ≡ talk.session) × (end.ending ≡ ReadFault) × (end.written ≡ talk.written) × (out' ≡ out)

-- how far a call is: what the reader gave, and what was handled of it
pub record Reading (rules : Rules) (h : NamedSession) (input input' : Option (List ℕ)) (out out' : Option (List ℕ))
    (read : ℕ) (talk : Talk) : Type 0 where
  pub bytes : List ℕ
  pub read_is : read ≡ length bytes
  pub bounded : length bytes ≤ input_limit
  pub consumed : Consumes input input' bytes
  pub pending : IsPending talk.bytes.items talk.start
  pub handled : Handled rules [] bytes talk.bytes.items h (session_of talk) out out' 0 talk.written
