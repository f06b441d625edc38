use Rattle.std.proofs.Common.{sym, ◌∙◌}
use Rattle.hush_words.proofs.ClassLemmas.{name-braces}
use Rattle.hush_words.proofs.classes.is_in_braces.Goals as goal

pub returns-then-is_in_name : goal.returns-then-is_in_name
returns-then-is_in_name c = sym (name-braces c.args.b (sym c.is_in_name.ensures ∙ c.if-is_in_name.true))
