-- What an accepted line gives.
use Rattle.std.proofs.Common.{◌≡◌, ℕ, Option, Err, ap, ◌∙◌}
use Rattle.std.specs.Str.{IsUtf8}
use Rattle.std.proofs.lemmas.Bool.{cond-true, cond-false, false_from_ne_true}
use Rattle.std.proofs.lemmas.Str.{IsUtf8-from_is_utf8, is_utf8-from_IsUtf8}
use Rattle.envcfg_core.specs.declared.config.ConfigFault.TheVariants.{NotUtf8}
use Rattle.envcfg_core.specs.Config.{Accepted, checked, sized}

pub checked-not_utf8 : (a : Accepted) → ¬ (IsUtf8 a.device) → checked a ≡ Err (NotUtf8 a.line)
checked-not_utf8 a h = cond-false _ _ _ (false_from_ne_true _ (λ t. h (IsUtf8-from_is_utf8 a.device t)))

pub checked-utf8 : (a : Accepted) (size : Option ℕ) → IsUtf8 a.device → a.size ≡ size → checked a ≡ sized a.line size
checked-utf8 a size h e = cond-true _ _ _ (is_utf8-from_IsUtf8 a.device h) ∙ ap (sized a.line) e
