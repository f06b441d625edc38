-- The stack of a run as its callers see it (docs/runs.md, "The stack").
use Rattle.std.specs.Prelude.{ℕ, ◌+◌, ◌*◌, List, [], ◌∷◌, ◌++◌, reverse}
use Rattle.hush_syntax.specs.Scripts.{Parsed}
use Rattle.hush_syntax.specs.Grammar.{nest_limit}
use Rattle.hush_run.specs.declared.frames.Frame.{Frame}

-- the frames, the last one first, and how many the memory that is taken holds
pub record Stack : Type 0 where
  pub frames : List Frame
  pub capacity : ℕ

-- the frames that one script may need: three for each level of nesting, and three for a list, its chain and its command
abbrev pub script_frames : ℕ
script_frames = 3 * nest_limit + 3

-- the frames of a script and of this many starts inside one another
abbrev pub frame_limit : ℕ → ℕ
frame_limit depth = (depth + 1) * script_frames

abbrev pub stack_of : List Frame → ℕ → Stack
stack_of items capacity = record { frames = reverse items; capacity = capacity }

-- the scripts that run, the innermost first
abbrev pub calls_of : Parsed → List Parsed → List Parsed
calls_of first started = reverse started ++ first ∷ []
