-- Copies that were saved once, by the steps of the code; no promise speaks of them.
use Rattle.std.specs.Prelude.{◌≡◌}
use Rattle.env_session.specs.Session.{Held, bytes_of, saved}
use Rattle.env_session.specs.declared.session.Stored.{Stored}
use Rattle.envimg_core.specs.Geometry.{Shape}
use Rattle.envimg_core.specs.Image.{image_of}
use Rattle.envimg_core.specs.declared.choice.Choice.TheVariants.{Neither}
use Rattle.envvars_core.specs.Variables.{Contents}
use Rattle.fw_tools.specs.NewImages.{erased_second}

-- those of a session of which no copy was good
pub record IsSavedBlank (session : Held) (stored : Stored) : Type 0 where
  pub blank : session.now.current ≡ Neither
  pub first : stored.first.items ≡ (saved session).now.first
  pub second : bytes_of stored.second ≡ (saved session).now.second

-- the first has the variables, with the flag 1, and the second is erased
pub record IsSavedOnce (shape : Shape) (vars : Contents) (stored : Stored) : Type 0 where
  pub first : stored.first.items ≡ image_of shape 1 vars.env
  pub second : bytes_of stored.second ≡ erased_second shape
