use Rattle.std.proofs.Common.{ap, ◌∙◌}
use Rattle.hush_words.specs.Parts.{word_atoms}
use Rattle.fw_check.specs.Literals.{whole_of}
use Rattle.fw_check.proofs.LiteralLemmas.{whole-is}
use Rattle.fw_check.proofs.literals.literal.Goals as goal

pub returns : goal.returns
returns c = c.whole.ensures ∙ ap whole_of c.in_ok-front.ensures ∙ whole-is (word_atoms c.args.text.now c.args.word)
