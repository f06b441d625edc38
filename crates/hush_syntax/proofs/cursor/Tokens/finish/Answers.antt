use Rattle.std.proofs.Common.{sym, ◌∙◌, ap}
use Rattle.hush_syntax.specs.Answers.{whole_behind, ends_whole}
use Rattle.hush_syntax.proofs.cursor.Tokens.finish.Goals as goal

pub returns-then-is_missing-clause-whole : goal.returns-then-is_missing-clause-whole
unfolding ends_whole
returns-then-is_missing-clause-whole c = λ text.
    ap (λ o. whole_behind text o c.args.self.now.behind) c.in-Err.is ∙ sym c.is_missing.ensures ∙ c.if-is_missing.true

pub returns-else-is_missing-clause-fault : goal.returns-else-is_missing-clause-fault
unfolding ends_whole
returns-else-is_missing-clause-fault c = λ text passed.
    ap (λ o. whole_behind text o c.args.self.now.behind) c.in-Err.is ∙ sym c.is_missing.ensures ∙ c.if-is_missing.false
