use Rattle.std.proofs.lemmas.Result.{IfOk-weaker}
use Rattle.fw_tools.proofs.NewImageLemmas.{placed_so}
use Rattle.fw_tools.proofs.new_image.new_image.Goals as goal

pub returns : goal.returns
returns c = IfOk-weaker c.placed.result _ _ (λ image is. placed_so _ _ c.args.both _ image.items c.in_ok-first.ensures is) c.placed.ensures
