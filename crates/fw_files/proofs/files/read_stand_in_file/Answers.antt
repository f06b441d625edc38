use Rattle.std.proofs.Common.{subst, sym}
use Rattle.std.proofs.lemmas.Result.{IfOk-weaker}
use Rattle.fw_files.specs.Files.{IsTextAt}
use Rattle.fw_files.proofs.files.read_stand_in_file.Goals as goal

pub returns : goal.returns
returns g c =
    let held = subst (IsTextAt (g.X.System.holds c.args.rt.now) c.args.path.now) (sym c.deref.ensures.value) c.in_ok-text.ensures.held in
    IfOk-weaker c.stand_ins_from.result _ _ (λ stand_ins is. (c.deref.result.now, held, is)) c.stand_ins_from.ensures
