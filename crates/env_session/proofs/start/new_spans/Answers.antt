use Rattle.std.proofs.Common.{◌≡◌, List, subst, sym, arith}
use Rattle.std.specs.List.{AllByRecursion, slice_index_or}
use Rattle.env_session.specs.declared.marks.Span.{Span}
use Rattle.env_session.specs.SpanSteps.{IsNewSpan}
use Rattle.env_session.specs.Spans.{IsEmptySpan}
use Rattle.env_session.proofs.StartLemmas.{all_from, all_begun, first_begun}
use Rattle.env_session.proofs.start.new_spans.Goals as goal

pub returns-in-Ok-clause-empty : goal.returns-in-Ok-clause-empty
returns-in-Ok-clause-empty c = subst (AllByRecursion IsEmptySpan) (sym c.in-Ok.ensures.items)
    (all_begun c.args.current c.empty_spans-spans.result c.begin.new.spans c.begin.ensures (all_from IsEmptySpan c.empty_spans-spans.result (λ i d lt. c.empty_spans-spans.ensures.empty i d (omega (arith, lt, c.empty_spans-spans.ensures.many)))))

pub returns-in-Ok-clause-first : goal.returns-in-Ok-clause-first
returns-in-Ok-clause-first c = subst (λ (l : List Span). (d : Span) → IsNewSpan c.args.current (slice_index_or l 0 d)) (sym c.in-Ok.ensures.items)
    (first_begun c.args.current c.empty_spans-spans.result c.begin.new.spans c.begin.ensures (omega (arith, c.empty_spans-spans.ensures.many)) (all_from IsEmptySpan c.empty_spans-spans.result (λ i d lt. c.empty_spans-spans.ensures.empty i d (omega (arith, lt, c.empty_spans-spans.ensures.many)))))
