use Rattle.std.proofs.lemmas.Result.{IfOk-weaker}
use Rattle.fw_tools.proofs.NewImageLemmas.{saved_so}
use Rattle.fw_tools.proofs.new_image.saved_once.Goals as goal

pub returns-in-Ok : goal.returns-in-Ok
returns-in-Ok c =
    let erased = c.in_ok-erased.ensures in
    IfOk-weaker c.saved_blank.result _ _ (λ stored saved. saved_so _ c.in_ok-erased.erased stored c.args.geometry c.args.vars c.in-Ok.ensures.2 erased.geometry erased.second saved) c.saved_blank.ensures
