use Rattle.std.proofs.Common.{◌≢◌, ◌&&◌, Some, sym, ◌∙◌, ap, subst}
use Rattle.hush_syntax.specs.declared.syntax_fault.FaultKind.TheVariants.{Memory}
use Rattle.hush_syntax.specs.declared.syntax_fault.SyntaxFault.{SyntaxFault}
use Rattle.hush_syntax.specs.Faults.{is_missing, word_fault}
use Rattle.hush_syntax.specs.Halts.{Position, halt, is_whole}
use Rattle.hush_syntax.specs.declared.positions.Met.TheVariants.{End}
use Rattle.hush_syntax.proofs.HaltLemmas.{ended-kind, nul-halts, word-halts}
use Rattle.hush_syntax.proofs.Places.{word-not-memory}
use Rattle.hush_syntax.proofs.positions.Halt.of.Goals as goal

pub returns-in-Some-clause-exact : goal.returns-in-Some-clause-exact
returns-in-Some-clause-exact c =
    word-halts c.start.result c.end_halt-in-Some.result c.in-Some.nul c.from.result c.end_halt-in-Some.ensures c.from.ensures
    ∙ ap (λ (p : Position). Some (halt (word_fault c.in-Some.nul) p End)) c.start.ensures
    ∙ sym (nul-halts c.args.bodies c.args.text.now.source c.in-Some.nul c.in-Some.ensures.found c.in-Some.ensures.first)

pub returns-in-Some-clause-kind : goal.returns-in-Some-clause-kind
returns-in-Some-clause-kind c =
    ended-kind c.end_halt-in-Some.result (is_whole c.start.result && is_missing c.from.result.kind) c.start.result c.from.result
    (subst (λ (f : SyntaxFault). f.kind ≢ Memory) (sym c.from.ensures) (word-not-memory c.in-Some.nul.kind))
    c.end_halt-in-Some.ensures
