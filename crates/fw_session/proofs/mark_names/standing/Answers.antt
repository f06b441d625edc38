use Rattle.std.proofs.Common.{take, ap}
use Rattle.fw_session.proofs.MarkLemmas.{names_taken, first_taken}
use Rattle.fw_session.proofs.mark_names.standing.Goals as goal

pub returns : goal.returns
returns c =
    let all = c.as_slice-all.ensures.value in
    names_taken c.args.names.now.items _ c.args.session.now c.min.result (ap (take c.min.result) all) (first_taken c.args.names.now.items c.as_slice-all.result.now c.min.result _ _ all c.min.ensures c.marks.ensures.marks)
