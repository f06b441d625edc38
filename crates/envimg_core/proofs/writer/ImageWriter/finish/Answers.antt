use Rattle.envimg_core.proofs.WriterLemmas.{finished}
use Rattle.envimg_core.proofs.writer.ImageWriter.finish.Goals as goal

pub returns : goal.returns
returns c =
    finished c.args.self.geometry c.layout.result c.order.result c.args.flag c.head_len.result c.args.self.stored c.args.self.image.now c.clear_from.new.image c.seal.new.image
    c.head_len.ensures.value c.layout.ensures c.order.ensures c.args.self.sized c.args.self.ended c.clear_from.ensures c.seal.ensures
