-- The text that starts variables, computed by the checker.
use Rattle.std.proofs.Common.{◌≡◌, [], ◌∷◌, codes, refl}
use Rattle.fw_tools.specs.ScriptRuns.{starts}

pub quotes_kept : starts (codes "a" ∷ codes "it's" ∷ []) ≡ codes "run 'a' 'it'\\''s'"
quotes_kept = refl
