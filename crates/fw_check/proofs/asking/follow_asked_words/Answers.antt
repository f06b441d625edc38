use Rattle.std.proofs.Common.{◌≡◌, ap, map, subst, ◌∙◌}
use Rattle.std.specs.Prelude.{OnOk}
use Rattle.hush_words.specs.Parts.{word_atoms}
use Rattle.hush_syntax.specs.Trees.{words_in}
use Rattle.fw_check.specs.Following.{follow_fronts}
use Rattle.fw_check.specs.Literals.{front_of}
use Rattle.fw_check.proofs.AskLemmas.{mapped-if}
use Rattle.fw_check.proofs.asking.follow_asked_words.Goals as goal

pub returns : goal.returns
returns c =
    let text = c.args.text.now in
    let same = ap (words_in text) c.words_asked.ensures ∙ mapped-if (word_atoms text) c.args.setting.asked c.args.words.now in
    subst (λ ws. OnOk c.follow_words.result (c.follow_words.new.names ≡ follow_fronts c.args.asked.now (map front_of ws))) same c.follow_words.ensures
