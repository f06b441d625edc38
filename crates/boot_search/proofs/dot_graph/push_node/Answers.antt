use Rattle.std.proofs.Common.{◌++◌, append_assoc, ap, ◌∙◌}
use Rattle.std.proofs.lemmas.Result.{on_ok_weaker}
use Rattle.boot_search.specs.DotText.{label_text, line_start, mark_style, node_text}
use Rattle.boot_search.proofs.dot_graph.push_node.Goals as goal

pub returns : goal.returns
returns g c =
    let label = c.deref.ensures.value ∙ c.in_ok-label.ensures in
    let written = label_text (node_text (g.B.Board.tells c.args.board.now) c.args.mark c.args.place c.args.bytes.now) (mark_style c.args.mark) in
    on_ok_weaker c.push_label.result
    (λ second. second ∙ (λ i. c.push_line_start.new.text.items ++ label_text (label i) (c.mark_style.ensures i))
    ∙ ap (λ t. t ++ written) c.in_ok-push_line_start.ensures ∙ append_assoc _ (line_start c.args.place) written) c.push_label.ensures
