use Rattle.std.proofs.Common.{sym, ◌∙◌, ap}
use Rattle.hush_syntax.specs.declared.syntax_fault.SyntaxFault.{SyntaxFault}
use Rattle.hush_words.proofs.TextLemmas.{nul-read}
use Rattle.hush_syntax.proofs.Told.{read_stopped}
use Rattle.hush_syntax.proofs.Places.{nul-first, word-not-memory}
use Rattle.hush_syntax.proofs.script.read_text.Goals as goal

pub returns-in-Some-clause-unread : goal.returns-in-Some-clause-unread
returns-in-Some-clause-unread c = λ known. read_stopped c.args.bodies c.args.text.now.source (nul-read c.args.text.now.source c.in-Some.ensures.found)

pub returns-in-Some-clause-exact : goal.returns-in-Some-clause-exact
returns-in-Some-clause-exact c = λ known.
    nul-first c.args.bodies c.args.text.now.source c.in-Some.nul c.from.result c.in-Some.ensures.found c.in-Some.ensures.first c.from.ensures

pub returns-in-Some-clause-memory : goal.returns-in-Some-clause-memory
returns-in-Some-clause-memory c = λ known. absurd (word-not-memory c.in-Some.nul.kind (sym (ap (λ (f : SyntaxFault). f.kind) c.from.ensures) ∙ known))
