-- How a session holds its marks: each span has what was kept since its beginning, and putting that back gives the state then.
use Rattle.std.specs.Prelude.{◌≡◌, ℕ, suc, ◌+◌, ◌≤◌, List, [], ◌∷◌, length, map, take, drop, Option, Some, None, is_some, unwrap_or}
use Rattle.std.specs.List.{AllByRecursion}
use Rattle.std.specs.FinMap as env
use Rattle.envimg_core.specs.Geometry.{room_of}
use Rattle.envimg_core.specs.declared.choice.Choice.{Choice}
use Rattle.envvars_core.specs.Olds.{OldValues, restored}
use Rattle.envvars_core.specs.Variables.{Contents}
use Rattle.env_session.specs.NameSets.{NameSet}
use Rattle.env_session.specs.Session.{most_marks, State, Mark, Held, IsSound, bytes_of}
use Rattle.env_session.specs.declared.marks.Span.{Span}
use Rattle.env_session.specs.declared.session.Stored.{Stored}

-- a kept second copy comes back, else the present one stays
abbrev pub second_back : Option (List ℕ) → Option (List ℕ) → Option (List ℕ)
second_back None second = second
second_back (Some image) second = Some image

-- what a span kept, put back
abbrev pub back : Span → State → State
back s now = record {
  env = restored now.env s.olds;
  first = unwrap_or (bytes_of s.first) now.first;
  second = second_back (bytes_of s.second) now.second;
  current = s.current;
}

-- the names that are kept
unfoldable pub kept_names : OldValues → NameSet
kept_names olds = env.from_sorted (map (λ e. (e.0, tt)) (env.entries olds))

abbrev pub mark_of : Span → State → Mark
mark_of s now = record { begun = back s now; touched = kept_names s.olds; first_saved = is_some s.first; second_saved = is_some s.second }

-- the state at the beginning of the first of these spans
abbrev pub begin_of : List Span → State → State
begin_of [] now = now
begin_of (s ∷ ss) now = back s (begin_of ss now)

abbrev pub marks_of : List Span → State → List Mark
marks_of [] now = []
marks_of (s ∷ ss) now = mark_of s (begin_of ss now) ∷ marks_of ss now

-- nothing is kept
pub record IsEmptySpan (s : Span) : Type 0 where
  pub olds : s.olds ≡ env.empty
  pub first : s.first ≡ None
  pub second : s.second ≡ None

abbrev pub now_of : Stored → Contents → Choice → State
now_of stored vars current = record { env = vars.env; first = stored.first.items; second = bytes_of stored.second; current = current }

abbrev pub held_of : Stored → Contents → Contents → Choice → List Span → ℕ → Held
held_of stored defaults vars current spans marks = record {
  shape = stored.geometry;
  defaults = defaults;
  now = now_of stored vars current;
  marks = marks_of (take (suc marks) spans) (now_of stored vars current);
}

pub record IsHeld (stored : Stored) (vars : Contents) (current : Choice) (spans : List Span) (marks : ℕ) : Type 0 where
  pub room : vars.room ≡ room_of stored.geometry
  pub few : marks ≤ most_marks
  pub many : length spans ≡ most_marks + 1
  pub sound : IsSound stored.geometry (now_of stored vars current)
  pub begun : AllByRecursion (λ m. IsSound stored.geometry m.begun) (marks_of (take (suc marks) spans) (now_of stored vars current))
  pub empty : AllByRecursion IsEmptySpan (drop (suc marks) spans)
