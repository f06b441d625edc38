use Rattle.std.proofs.Common.{◌∙◌, ap, sym}
use Rattle.hush_syntax.specs.declared.keywords.Keyword.TheVariants as keyword
use Rattle.hush_syntax.specs.Answers.{left_in}
use Rattle.hush_syntax.specs.Reading.{is, one}
use Rattle.hush_syntax.proofs.PassedWords.{passes-reserved}
use Rattle.hush_syntax.proofs.parser.Parser.then_word.Goals as goal

pub returns-clause-words : goal.returns-clause-words
returns-clause-words c =
    let s = c.args.self.text.now in
    passes-reserved s c.args.tokens.now c.expect.new.self c.requires.at c.in_ok-expect.ensures.at keyword.Then tt
    (sym (ap (λ t. one (is t) (left_in s c.args.tokens.now)) c.text.ensures) ∙ c.in_ok-expect.ensures.answered)
