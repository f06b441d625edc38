-- The code's form of what a block or a dot line asks for.
use Rattle.std.specs.Prelude.{List, ℕ, Option, option_map}
use Rattle.arrayvec.specs.ArrayVec.{ArrayVec}
use Rattle.env_requests.specs.Views.{asked}
use Rattle.fw_session.specs.declared.dot_lines.Asked as code
use Rattle.fw_session.specs.declared.dot_lines.Asked.TheVariants as is
use Rattle.fw_session.specs.Asked.{Asked, Says, Asks, Seeks}

-- a name, if there is one
abbrev pub name_of : Option (ArrayVec ℕ) → Option (List ℕ)
name_of name = option_map (λ v. v.items) name

abbrev pub asked_view : code.Asked → Asked
asked_view (is.Text text) = Says text.now
asked_view (is.Request request name) = Asks (asked request) (name_of name)
asked_view (is.UndoTo name) = Seeks name.items
