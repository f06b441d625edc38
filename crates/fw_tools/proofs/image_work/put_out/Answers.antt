use Rattle.fw_tools.proofs.NewImageLemmas.{printed_out}
use Rattle.fw_tools.proofs.image_work.put_out.Goals as goal

pub returns-in-None : goal.returns-in-None
returns-in-None g c =
    printed_out _ _ c.args.image.now (record { output = g.W.Write.contents c.args.output.now; errors = g.E.Write.contents c.args.errors.now })
    (record { output = g.W.Write.contents c.print_text.new.output; errors = g.E.Write.contents c.report.new.errors }) _ c.print_text.result c.in-None.is
    c.print_text.ensures c.report.ensures.said c.report.ensures.status
