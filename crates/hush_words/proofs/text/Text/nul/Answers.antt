use Rattle.std.proofs.Common.{sym, ◌∙◌, ap}
use Rattle.hush_words.specs.Tokens.{has_no_nul}
use Rattle.hush_words.specs.Faults.{first_nul}
use Rattle.hush_words.proofs.FaultLemmas.{nul-first}
use Rattle.hush_words.proofs.TextLemmas.{no-nul, a-nul}
use Rattle.hush_words.proofs.text.Text.nul.Goals as goal

pub returns-in-None-clause-found : goal.returns-in-None-clause-found
returns-in-None-clause-found c = ap has_no_nul (sym c.source.ensures.bytes) ∙ no-nul c.source.result.now c.in-None.ensures

pub returns-in-Some-clause-found : goal.returns-in-Some-clause-found
returns-in-Some-clause-found c = ap has_no_nul (sym c.source.ensures.bytes) ∙ a-nul c.source.result.now c.in-Some.place c.in-Some.ensures

pub returns-in-Some-clause-first : goal.returns-in-Some-clause-first
returns-in-Some-clause-first c = nul-first c.source.result.now c.in-Some.place c.in-Some.ensures ∙ ap first_nul c.source.ensures.bytes
