use Rattle.std.proofs.Common.{◌≢◌, ◌==◌, ◌&&◌, length, Some, sym, ◌∙◌, subst}
use Rattle.hush_syntax.specs.Faults.{is_missing}
use Rattle.hush_syntax.specs.declared.syntax_fault.SyntaxFault.{SyntaxFault}
use Rattle.hush_words.specs.Reading.{lexeme_end}
use Rattle.hush_words.specs.Views.{kind_token}
use Rattle.hush_syntax.specs.Halts.{fault_of, halt, halt_in, is_whole, met_by}
use Rattle.hush_syntax.specs.declared.syntax_fault.FaultKind.TheVariants.{Memory}
use Rattle.hush_syntax.proofs.HaltLemmas.{answered, answered-kind, end-halts, end-not-memory, ended-kind, ends, ends-missing, first-is, goes-on, stops-after}
use Rattle.hush_syntax.proofs.Places.{ends-at}
use Rattle.hush_syntax.proofs.positions.Halt.of_tokens.Goals as goal

pub loop-token-preserved : goal.loop-token-preserved
loop-token-preserved c = (
  c.loop-token.invariant.0
      ∙ goes-on c.args.bodies c.args.text.now c.loop-token.tokens c.advance.new.self c.in-Ok.token c.loop-token.position c.step.new.self
      (sym c.next.ensures ∙ c.in-Ok.is) c.in-Ok-step.ensures c.advance.ensures.placed,
  c.advance.ensures.whole ∙ c.loop-token.invariant.1,
  c.advance.ensures.at,
)

pub returns-in-Err-clause-exact : goal.returns-in-Err-clause-exact
returns-in-Err-clause-exact c =
    let text = c.args.text.now in
    let token = c.in-Ok.token in
    let place = c.loop-token.position in
    answered c.halt.result (c.in-Err.kind ≢ Memory)
    (Some (halt (fault_of token.place c.in-Err.kind) c.step.new.self (met_by (kind_token text token.kind)))) (halt_in c.args.bodies text.source)
    c.halt.ensures
    (λ known. stops-after c.args.bodies text c.loop-token.tokens token place c.step.new.self c.in-Err.kind c.requires c.loop-token.invariant.0
    (sym c.next.ensures ∙ c.in-Ok.is) (c.in-Err.ensures known))

pub returns-clause-exact : goal.returns-clause-exact
returns-clause-exact c =
    let text = c.args.text.now in
    let end = c.in_default.field-0 in
    let next = sym c.next.ensures ∙ c.in_default.is in
    let whole = length (lexeme_end text.source) == 0 in
    end-halts c.args.bodies c.loop-token.position c.end_halt.result c.fault.result end whole c.end_halt.ensures
    (first-is c.loop-token.tokens c.fault.result end c.fault.ensures.next next)
    (ends-missing text c.loop-token.tokens end whole c.loop-token.invariant.1 next)
    ∙ sym (ends c.args.bodies text c.loop-token.tokens end c.loop-token.position c.requires c.loop-token.invariant.0 next (ends-at text c.loop-token.tokens end next c.loop-token.invariant.2))

pub returns-in-Err-clause-kind : goal.returns-in-Err-clause-kind
returns-in-Err-clause-kind c =
    answered-kind c.halt.result c.in-Ok.token.place c.in-Err.kind c.step.new.self (met_by (kind_token c.args.text.now c.in-Ok.token.kind)) c.halt.ensures

pub returns-clause-kind : goal.returns-clause-kind
returns-clause-kind c =
    let text = c.args.text.now in
    let tokens = c.loop-token.tokens in
    let end = c.in_default.field-0 in
    let next = sym c.next.ensures ∙ c.in_default.is in
    let same = first-is tokens c.fault.result end c.fault.ensures.next next ∙ ends-at text tokens end next c.loop-token.invariant.2 in
    ended-kind c.end_halt.result (is_whole c.loop-token.position && is_missing c.fault.result.kind) c.loop-token.position c.fault.result
    (subst (λ (f : SyntaxFault). f.kind ≢ Memory) (sym same) (end-not-memory text.source))
    c.end_halt.ensures
