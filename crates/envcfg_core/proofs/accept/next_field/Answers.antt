use Rattle.std.proofs.Common.{sym, ◌∙◌}
use Rattle.text_parts.proofs.WordLemmas.{words-first, words-last}
use Rattle.envcfg_core.specs.Config.{is_space}
use Rattle.envcfg_core.proofs.accept.next_field.Goals as goal

pub returns-in-Some : goal.returns-in-Some
returns-in-Some c =
    sym c.skip_spaces-text.ensures.same
    ∙ words-first is_space c.skip_spaces-text.result.now c.in-Some.at c.skip_spaces-text.ensures.reached (sym c.is_empty.ensures ∙ c.if-is_empty.false) c.in-Some.ensures

pub returns-in-None : goal.returns-in-None
returns-in-None c =
    sym c.skip_spaces-text.ensures.same ∙ words-last is_space c.skip_spaces-text.result.now (sym c.is_empty.ensures ∙ c.if-is_empty.false) c.in-None.ensures
