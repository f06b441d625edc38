use Rattle.std.proofs.Common.{sym, ◌∙◌, ap, subst, refl, drop}
use Rattle.hush_syntax.specs.Answers.{with_behind, whole_behind, ends_whole, placed_behind, placed_in, EndsBehind, EndsRight}
use Rattle.hush_syntax.specs.Reading.{behind}
use Rattle.hush_syntax.proofs.Places.{at-next}
use Rattle.hush_syntax.proofs.cursor.Tokens.advance.Goals as goal

pub returns-in-Ok-clause-left : goal.returns-in-Ok-clause-left
returns-in-Ok-clause-left c =
    c.read_next.ensures.left ∙ sym (ap (λ o. behind (with_behind c.args.text.now o c.args.self.now.behind)) c.in-Ok.is)

pub returns-in-Ok-clause-whole : goal.returns-in-Ok-clause-whole
unfolding ends_whole
returns-in-Ok-clause-whole c =
    c.read_next.ensures.whole ∙ sym (ap (λ o. whole_behind c.args.text.now o c.args.self.now.behind) c.in-Ok.is)

pub returns-in-Err-clause-left : goal.returns-in-Err-clause-left
returns-in-Err-clause-left c = rw c.in-Err.is refl

pub returns-in-Ok-clause-placed : goal.returns-in-Ok-clause-placed
unfolding placed_in
returns-in-Ok-clause-placed c =
    c.read_next.ensures.placed ∙ sym (ap (λ o. drop 1 (placed_behind c.args.text.now o c.args.self.now.behind)) c.in-Ok.is)

pub returns-in-Ok-clause-at : goal.returns-in-Ok-clause-at
unfolding placed_in EndsRight
returns-in-Ok-clause-at c =
    let text = c.args.text.now in
    let old = c.args.self.now in
    at-next text old c.read_next.new.self c.requires.at
    (c.read_next.ensures.placed ∙ sym (ap (λ o. drop 1 (placed_behind text o old.behind)) c.in-Ok.is))
    (λ r. c.read_next.ensures.ends (subst (λ o. EndsBehind text o old.behind) c.in-Ok.is r).0)

pub returns-in-Err-clause-placed : goal.returns-in-Err-clause-placed
unfolding placed_in
returns-in-Err-clause-placed c = rw c.in-Err.is refl
