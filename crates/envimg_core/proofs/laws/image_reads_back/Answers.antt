use Rattle.envimg_core.proofs.ImageLemmas.{image_back}
use Rattle.envimg_core.proofs.laws.image_reads_back.Goals as goal

pub returns : goal.returns
returns c shape flag env fits formed small = image_back shape flag env fits formed small
