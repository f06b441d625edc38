use Rattle.std.proofs.Common.{arith}
use Rattle.envimg_core.proofs.WriterLemmas.{put_written}
use Rattle.envimg_core.proofs.writer.ImageWriter.put.Goals as goal

pub returns-clause-entries : goal.returns-clause-entries
returns-clause-entries c =
    let w = c.args.self.now in
    put_written w.geometry.layout c.head_len.result w.stored c.args.name.now c.args.value.now w.image.now c.store.new.image
    c.head_len.ensures.value (omega arith) c.store.ensures
