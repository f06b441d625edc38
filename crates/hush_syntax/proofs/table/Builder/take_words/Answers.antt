use Rattle.std.proofs.Common.{sym, ap, append-nil, ◌∙◌, ◌-◌, length, []}
use Rattle.hush_syntax.specs.Answers.{left_in}
use Rattle.hush_syntax.specs.Reading.{words_at}
use Rattle.hush_syntax.proofs.Building.{same-members, only_words}
use Rattle.hush_syntax.proofs.CommandExits.{block-told}
use Rattle.hush_syntax.proofs.table.Builder.take_words.Goals as goal

pub returns-clause-words : goal.returns-clause-words
returns-clause-words c = λ more.
    let text = c.args.text.now in
    let grown = c.in_ok-words.ensures.grown in
    block-told text c.args.self.now.table.words.items c.words.new.words.items grown.0 (words_at (left_in text c.args.tokens.now)) c.in_ok-block.block more.words grown.1 c.in_ok-words.ensures.taken
    (c.in_ok-block.ensures.first ∙ c.count-first.ensures) (c.in_ok-block.ensures.len ∙ ap (λ n. length c.words.new.words.items - n) (sym c.in_ok-block.ensures.first))

pub returns-clause-grows : goal.returns-clause-grows
returns-clause-grows c =
    let t = c.args.self.now.table in
    let grown = c.in_ok-words.ensures.grown in
    ([], only_words grown.0, sym (append-nil t.nodes.items), same-members _ _ _ _ _ _ _ _ grown.1 (sym (append-nil t.chains.items)) (sym (append-nil t.links.items)) (sym (append-nil t.branches.items)))
