-- Words that a finding is about.
use Rattle.std.specs.Prelude.{ℕ, List}

-- a word without a substitution: its place and its bytes
pub record Target : Type 0 where
  pub count : ℕ
  pub name : List ℕ

abbrev pub target : ℕ → List ℕ → Target
target count name = record { count = count; name = name }
