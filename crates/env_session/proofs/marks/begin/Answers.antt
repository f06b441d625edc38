use Rattle.std.proofs.Common.{ap, ◌∙◌}
use Rattle.std.proofs.Math.ListN.{set}
use Rattle.env_session.specs.SpanSteps.{beginning}
use Rattle.env_session.proofs.MarkLemmas.{nth_of}
use Rattle.env_session.proofs.marks.begin.Goals as goal

pub returns : goal.returns
returns c =
    let n = nth_of c.args.spans.now c.args.at c.requires in
    ap (λ s. set c.args.spans.now c.args.at (beginning c.args.current s)) (n.1.is c.index-spans-at.result) ∙ n.1.set_is (beginning c.args.current)
