use Rattle.std.proofs.Common.{sym, ◌∙◌, ap}
use Rattle.envimg_core.specs.Register.{feed}
use Rattle.envimg_core.proofs.TableLemmas.{feed-append}
use Rattle.envimg_core.proofs.checksum.Digest.update.Goals as goal

pub returns : goal.returns
returns c taken has =
    c.feed_all-self.ensures
    ∙ ap (λ r. feed r c.args.bytes.now) has
    ∙ sym (feed-append taken c.args.bytes.now 0xFFFFFFFF)
