use Rattle.std.proofs.Common.{◌∙◌, ap, drop, sym}
use Rattle.hush_words.specs.Parts.{word_atoms}
use Rattle.hush_syntax.specs.Answers.{left_in, placed_in}
use Rattle.hush_syntax.specs.CommandWords.{Beginning, Within}
use Rattle.hush_syntax.specs.Reading.{behind, keyword_at}
use Rattle.hush_syntax.proofs.CommandExits.{simple-built}
use Rattle.hush_syntax.proofs.PassedWords.{begins-simple}
use Rattle.hush_syntax.proofs.WordSteps.{assigned, moves, puts, stays}
use Rattle.hush_syntax.proofs.parser.Parser.plain.Goals as goal

pub returns-in_ok-node-in-None-clause-built : goal.returns-in_ok-node-in-None-clause-built
returns-in_ok-node-in-None-clause-built c =
    let s = c.args.self.text.now in
    let w = c.in_ok-words-in-None.ensures in
    simple-built s (word_atoms s c.in-Some.first) (behind (left_in s c.args.tokens.now)) (left_in s c.args.tokens.now) (left_in s c.take_words.new.tokens) c.args.builder.now c.take_words.new.self c.put.new.self
    c.in_ok-words-in-None.words c.in_ok-node-in-None.node (c.in-Some.ensures.first s) (sym c.in-None.ensures.told) w.words w.grows w.waits w.left c.in_ok-node-in-None.ensures

pub returns-in_ok-node-in-None-clause-words : goal.returns-in_ok-node-in-None-clause-words
returns-in_ok-node-in-None-clause-words c = λ none.
    let s = c.args.self.text.now in
    let before = c.args.tokens.now in
    let first = c.in-Some.first in
    stays s Within c.take_words.new.self c.put.new.self c.take_words.new.tokens (puts c.take_words.new.self c.put.new.self _ _ c.in_ok-node-in-None.ensures)
    ∙ c.in_ok-words-in-None.ensures.placed
    ∙ moves s Beginning Within c.args.builder.now before before
    (sym (begins-simple s before (drop 1 (placed_in s before)) first (c.in-Some.ensures.placed s c.requires.at) (ap keyword_at (sym (c.in-Some.ensures.first s)) ∙ none) (sym c.in-None.ensures.told)))

pub returns-in-Some-sides-clause-words : goal.returns-in-Some-sides-clause-words
returns-in-Some-sides-clause-words c =
    let s = c.args.self.text.now in
    assigned c.assignment.result s c.args.builder.now c.assignment.new.builder c.args.tokens.now c.advance.new.self c.assignment.new.tokens c.in-Some.first c.in-Some-sides.assignment
    c.assignment.ensures.put c.assignment.ensures.stays c.advance.ensures.placed (c.in-Some.ensures.placed s c.requires.at) (c.in-Some.ensures.first s) c.in-Some-sides.ensures.told c.in-Some-sides.ensures.placed
