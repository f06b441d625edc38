use Rattle.std.proofs.Common.{refl}
use Rattle.envimg_core.specs.Register.{feed}
use Rattle.envimg_core.proofs.checksum.Digest.new.Goals as goal

pub returns : goal.returns
unfolding feed
returns c = refl
