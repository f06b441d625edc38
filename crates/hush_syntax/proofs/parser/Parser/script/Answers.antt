use Rattle.std.proofs.Common.{◌++◌, map, sym, ◌∙◌, ap}
use Rattle.std.proofs.lemmas.Result.{err_from_is_err_and}
use Rattle.hush_syntax.specs.CommandWords.{Beginning, word_placed, words_from}
use Rattle.hush_syntax.specs.Reading.{script_in}
use Rattle.hush_syntax.proofs.Calls.{refuses, refuses_always}
use Rattle.hush_syntax.proofs.Told.{read_to_end, read_to_fault, read_none}
use Rattle.hush_syntax.proofs.parser.Parser.script.Goals as goal

pub returns-in_err-root-clause-built : goal.returns-in_err-root-clause-built
returns-in_err-root-clause-built c =
    let source = c.args.self.text.now.source in
    let p = err_from_is_err_and c.from_residual.result c.from_residual.ensures.1 in
    rw (p.1, p.2) (refuses _ (λ e. read_none c.args.self.bodies source c.requires (ap (script_in c.args.self.bodies) (sym c.of-tokens.ensures.left) ∙ e)) c.in_err-root.ensures.built)

pub returns-in_err-finish-clause-built : goal.returns-in_err-finish-clause-built
returns-in_err-finish-clause-built c =
    let text = c.args.self.text.now in
    let p = err_from_is_err_and c.from_residual-in_err-finish.result c.from_residual-in_err-finish.ensures.1 in
    let stops = sym c.of-tokens.ensures.whole ∙ sym c.in_ok-root.ensures.whole ∙ c.in_err-finish.ensures.fault text c.in_ok-root.ensures.passed in
    rw (p.1, p.2) (refuses_always _ (read_to_fault c.args.self.bodies text.source c.requires stops))

pub returns-clause-built : goal.returns-clause-built
returns-clause-built c =
    let text = c.args.self.text.now in
    let root = c.in_ok-root.ensures in
    let ends = sym c.of-tokens.ensures.whole ∙ sym root.whole ∙ c.in_ok-finish.ensures.whole text in
    (root.built.0, read_to_end c.args.self.bodies text.source c.requires ends ∙ ap (script_in c.args.self.bodies) (sym c.of-tokens.ensures.left) ∙ root.built.1, root.built.2)

pub returns-clause-words : goal.returns-clause-words
returns-clause-words c =
    let text = c.args.self.text.now in
    c.in_ok-root.ensures.words ∙ ap (λ ps. map (word_placed text) c.args.builder.now.table.words.items ++ words_from text Beginning ps) c.of-tokens.ensures.placed
