-- The code's session, with the names of its marks.
use Rattle.std.specs.Prelude.{◌≡◌, ℕ, ◌≤◌, List, length, map, replicate, Option, Some, None}
use Rattle.env_session.specs.Session.{Held, most_marks}
use Rattle.arrayvec.specs.ArrayVec.{ArrayVec}
use Rattle.fw_session.specs.declared.talk.Talk.{Talk}
use Rattle.fw_session.specs.Turns.{NamedSession}
use Rattle.fw_session.specs.Views.{name_of}

-- the names as the definitions have them
abbrev pub names_of : List (Option (ArrayVec ℕ)) → List (Option (List ℕ))
names_of names = map name_of names

abbrev pub named_session : Held → List (Option (List ℕ)) → NamedSession
named_session held names = record { held = held; names = names }

-- a session whose marks have no names
abbrev pub unnamed : Held → NamedSession
unnamed held = named_session held (replicate (length held.marks) None)

-- the number of a mark, if there is one, is at most that of the last one that can be made
abbrev pub IsLowMark : Option ℕ → Type 0
IsLowMark number = (n : ℕ) → number ≡ Some n → n ≤ most_marks

abbrev pub session_of : Talk → NamedSession
session_of talk = named_session talk.session (names_of talk.names.items)
