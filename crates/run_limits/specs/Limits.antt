-- The limits of a run (docs/runs.md, "Limits").
use Rattle.std.specs.Prelude.{ℕ, ◌≤◌, Option, Some, None}

-- how many steps, starts inside one another, bytes of a word and bytes of the text; and how many steps are counted before
-- saves are asked for in place of being done, if they are
pub record Bounds : Type 0 where
  pub steps : ℕ
  pub depth : ℕ
  pub word : ℕ
  pub output : ℕ
  pub saves : Option ℕ

-- limits under which each save is done
abbrev pub bounds : (steps depth word output : ℕ) → Bounds
bounds steps depth word output = record { steps = steps; depth = depth; word = word; output = output; saves = None }

-- the same limits, and a save is asked for once this many steps are counted
abbrev pub asking_saves : Bounds → (from : ℕ) → Bounds
asking_saves b from = record b { saves = Some from }

-- the most steps that a run may be given
abbrev pub most_steps : ℕ
most_steps = 1000000

-- the most starts of variables inside one another that may be given
abbrev pub most_depth : ℕ
most_depth = 16

-- the most bytes that may be given for a word
abbrev pub most_word : ℕ
most_word = 65536

-- the most bytes that may be given for the text
abbrev pub most_output : ℕ
most_output = 16777216

-- each is at most the most that may be given
pub record AreInRange (b : Bounds) : Type 0 where
  pub steps : b.steps ≤ most_steps
  pub depth : b.depth ≤ most_depth
  pub word : b.word ≤ most_word
  pub output : b.output ≤ most_output
