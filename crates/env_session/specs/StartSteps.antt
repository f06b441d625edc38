-- Which copies a start reads: a step of the code, and no part of what the crate promises.
-- A copy is good whose state says so.
use Rattle.std.specs.Prelude.{Bool, true, false}
use Rattle.envimg_core.specs.declared.state.CopyState.{CopyState}
use Rattle.envimg_core.specs.declared.state.CopyState.TheVariants.{Good, BadLength, BadCrc, Unterminated}

abbrev pub is_good : CopyState → Bool
is_good (Good flag) = true
is_good BadLength = false
is_good BadCrc = false
is_good Unterminated = false
