use Rattle.std.proofs.Common.{sym, ◌∙◌, ap, length, ◌==◌}
use Rattle.hush_words.specs.Faults.{left_fault}
use Rattle.hush_syntax.specs.Answers.{ends_whole, placed_in, EndsRight}
use Rattle.hush_syntax.specs.Faults.{is_missing}
use Rattle.hush_syntax.specs.declared.syntax_fault.SyntaxFault.{SyntaxFault}
use Rattle.hush_syntax.proofs.EndLemmas.{not-missing, some-left}
use Rattle.hush_syntax.proofs.Places.{word-ends, text-ends}
use Rattle.hush_syntax.proofs.cursor.Tokens.read_next.Goals as goal

pub returns-in-Ok-Some-clause-whole : goal.returns-in-Ok-Some-clause-whole
unfolding ends_whole
returns-in-Ok-Some-clause-whole c =
    let read = rw c.in-Ok-Some.field-0-is at c.in-Ok-Some.ensures in
    ap (λ l. length l == 0) (sym read.1)

pub returns-in-Ok-None-clause-whole : goal.returns-in-Ok-None-clause-whole
unfolding ends_whole
returns-in-Ok-None-clause-whole c =
    let read = rw c.in-Ok-None.field-0-is at c.in-Ok-None.ensures in
    ap (λ (f : SyntaxFault). is_missing f.kind) c.missing.ensures ∙ sym (ap (λ l. length l == 0) read.1)

pub returns-in-Err-clause-whole : goal.returns-in-Err-clause-whole
unfolding ends_whole
returns-in-Err-clause-whole c =
    ap (λ (f : SyntaxFault). is_missing f.kind) c.from.ensures ∙ not-missing c.in-Err.fault.kind ∙ sym (some-left _ c.in-Err.ensures.1)

pub returns-in-Ok-Some-clause-placed : goal.returns-in-Ok-Some-clause-placed
unfolding placed_in
returns-in-Ok-Some-clause-placed c =
    let read = rw c.in-Ok-Some.field-0-is at c.in-Ok-Some.ensures in
    sym read.4

pub returns-in-Ok-Some-clause-ends : goal.returns-in-Ok-Some-clause-ends
unfolding EndsRight
returns-in-Ok-Some-clause-ends c = λ e.
    let read = rw c.in-Ok-Some.field-0-is at c.in-Ok-Some.ensures in
    (sym read.1 ∙ e, read.5)

pub returns-in-Ok-None-clause-placed : goal.returns-in-Ok-None-clause-placed
unfolding placed_in
returns-in-Ok-None-clause-placed c =
    let read = rw c.in-Ok-None.field-0-is at c.in-Ok-None.ensures in
    sym read.2

pub returns-in-Ok-None-clause-ends : goal.returns-in-Ok-None-clause-ends
unfolding EndsRight
returns-in-Ok-None-clause-ends c = λ e.
    let read = rw c.in-Ok-None.field-0-is at c.in-Ok-None.ensures in
    c.missing.ensures ∙ text-ends c.args.text.now.source (sym e ∙ read.1)

pub returns-in-Err-clause-placed : goal.returns-in-Err-clause-placed
unfolding placed_in
returns-in-Err-clause-placed c = sym c.in-Err.ensures.2

pub returns-in-Err-clause-ends : goal.returns-in-Err-clause-ends
unfolding EndsRight
returns-in-Err-clause-ends c = λ e.
    let source = c.args.text.now.source in
    c.from.ensures ∙ word-ends source c.in-Err.fault (ap (left_fault source) (sym e) ∙ c.in-Err.ensures.3)
