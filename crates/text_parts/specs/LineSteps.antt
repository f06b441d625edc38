-- What the helper that cuts off a line promises: a step of the code, and no part of what the crate promises.
use Rattle.std.specs.Prelude.{◌≡◌, ℕ, ◌<◌, List, ◌∷◌, length}
use Rattle.std.specs.List.{slice_split}
use Rattle.text_parts.specs.Bytes.{is_newline}

-- the line is the text's first, and the rest follows its newline
pub record CutsLine (text line rest : List ℕ) : Type 0 where
  pub first : slice_split is_newline text ≡ line ∷ slice_split is_newline rest
  pub shorter : length rest < length text
