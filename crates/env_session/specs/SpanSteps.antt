-- What a step of the code makes of one span, or of one among several: no part of what the crate promises.
use Rattle.std.specs.Prelude.{◌≡◌, ℕ, zero, suc, List, [], ◌∷◌, Option, None}
use Rattle.std.specs.FinMap as env
use Rattle.envimg_core.specs.Environment.{Environment}
use Rattle.envimg_core.specs.Pieces.{but_last}
use Rattle.envimg_core.specs.declared.choice.Choice.{Choice}
use Rattle.envimg_core.specs.declared.choice.Choice.TheVariants.{First, Second}
use Rattle.envvars_core.specs.Olds.{OldValues, kept_by}
use Rattle.env_session.specs.Session.{State, Held, new_mark, on_last, last_begun}
use Rattle.env_session.specs.Spans.{back, IsEmptySpan}
use Rattle.env_session.specs.declared.marks.Span.{Span}
use Rattle.env_session.specs.declared.session.Side.{Side}

-- one span changed
abbrev pub on_nth : {A : Type 0} → (A → A) → ℕ → List A → List A
on_nth f n [] = []
on_nth f zero (x ∷ xs) = f x ∷ xs
on_nth f (suc n) (x ∷ xs) = x ∷ on_nth f n xs

-- what a span keeps, and what putting it back gives
abbrev pub olds_at : List Span → ℕ → OldValues
olds_at [] n = env.empty
olds_at (s ∷ ss) zero = s.olds
olds_at (s ∷ ss) (suc n) = olds_at ss n

abbrev pub back_at : List Span → ℕ → State → State
back_at [] n now = now
back_at (s ∷ ss) zero now = back s now
back_at (s ∷ ss) (suc n) now = back_at ss n now

abbrev pub keeping : Environment → List ℕ → Option (List ℕ) → Span → Span
keeping m n new s = record s { olds = kept_by m n new s.olds }

abbrev pub beginning : Choice → Span → Span
beginning current s = record s { current = current }

abbrev pub emptied : Span → Span
emptied s = record s { olds = env.empty; first = None; second = None }

-- a span that begins now
pub record IsNewSpan (current : Choice) (s : Span) : Type 0 where
  pub empty : IsEmptySpan s
  pub current_is : s.current ≡ current

-- the last span is undone, and its mark stays
abbrev pub last_undone : Held → Held
last_undone h = record h { now = last_begun h.marks h.now; marks = on_last (λ m. new_mark m.begun) h.marks }

-- the last span is undone, and its mark goes
abbrev pub last_removed : Held → Held
last_removed h = record h { now = last_begun h.marks h.now; marks = but_last h.marks }

-- the copy of a side as a choice
abbrev pub choice_of_side : Side → Choice
choice_of_side Side.First = First
choice_of_side Side.Second = Second
