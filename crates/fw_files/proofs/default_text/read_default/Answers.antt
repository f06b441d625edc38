use Rattle.std.proofs.lemmas.Result.{IfOk-weaker}
use Rattle.fw_files.proofs.default_text.read_default.Goals as goal

pub returns : goal.returns
returns g c = IfOk-weaker c.default_from.result _ _ (λ read is. (c.in_ok-text.text.items, c.in_ok-text.ensures.held, is)) c.default_from.ensures
