use Rattle.std.proofs.Common.{sym, ap, ◌∙◌}
use Rattle.text_parts.specs.Bytes.{begins, is_blank}
use Rattle.text_parts.proofs.WordLemmas.{words-first, words-last}
use Rattle.hush_commands.specs.StandInLines.{words_of}
use Rattle.hush_commands.proofs.BlankLemmas.{words-without_blanks, begins-without_blanks, words-nothing}
use Rattle.board_file.proofs.line_parts.next_word.Goals as goal

pub returns-then-is_empty : goal.returns-then-is_empty
returns-then-is_empty c =
    words-without_blanks c.args.text.now ∙ ap words_of (sym c.without_blanks-rest.ensures)
    ∙ words-nothing c.without_blanks-rest.result.now (sym c.is_empty.ensures ∙ c.if-is_empty.true)

pub returns-in-Some : goal.returns-in-Some
returns-in-Some c =
    words-without_blanks c.args.text.now ∙ ap words_of (sym c.without_blanks-rest.ensures)
    ∙ words-first is_blank c.without_blanks-rest.result.now c.in-Some.at (ap (begins is_blank) c.without_blanks-rest.ensures ∙ begins-without_blanks c.args.text.now)
    (sym c.is_empty.ensures ∙ c.if-is_empty.false) c.in-Some.ensures

pub returns-in-None : goal.returns-in-None
returns-in-None c =
    words-without_blanks c.args.text.now ∙ ap words_of (sym c.without_blanks-rest.ensures)
    ∙ words-last is_blank c.without_blanks-rest.result.now (sym c.is_empty.ensures ∙ c.if-is_empty.false) c.in-None.ensures
