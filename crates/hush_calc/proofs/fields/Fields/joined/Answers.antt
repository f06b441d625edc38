use Rattle.std.proofs.Common.{◌∙◌, ap}
use Rattle.std.proofs.lemmas.Result.{IfOk-weaker}
use Rattle.text_parts.specs.Words.{spaced}
use Rattle.hush_calc.proofs.FieldLemmas.{given}
use Rattle.hush_calc.proofs.fields.Fields.joined.Goals as goal

pub returns : goal.returns
returns c = IfOk-weaker c.joined.result _ _ (λ text h. h.2 ∙ ap spaced (given c.args.self h.0 h.1)) c.joined.ensures.joined
