use Rattle.std.proofs.Common.{sym, arith, is_ok}
use Rattle.env_requests.proofs.ListLemmas.{obeyed_start, obeyed_next, headline_at, longer}
use Rattle.env_requests.proofs.list.obey_all.Goals as goal

pub loop-request-init : goal.loop-request-init
loop-request-init c =
    (obeyed_start _ _ c.args.requests.now c.in_ok-replies.replies.items c.in_ok-replies.ensures.items, c.in_ok-replies.ensures.len, omega (arith, c.in_ok-replies.ensures.capacity))

pub loop-request-preserved : goal.loop-request-preserved
loop-request-preserved c =
    let was = c.loop-request.invariant in (
      obeyed_next _ _ _ _ c.args.requests.now c.loop-request.request-index c.request-item.result c.loop-request.replies.items _ c.obey-reply.result (is_ok c.push-kept.result) (omega (arith, c.loop-request-test.true)) c.request-item.is was.0 c.obey-reply.ensures
          (sym c.if-prove.ensures.value) c.push-kept.ensures.items,
      longer (is_ok c.push-kept.result) _ _ _ (sym c.if-prove.ensures.value) c.push-kept.ensures.len was.1,
      omega (arith, was.2, c.push-kept.ensures.capacity),
    )

pub returns : goal.returns
returns c = record { headline = headline_at _ _ _ c.args.requests.now c.loop-request.request-index c.loop-request.replies.items (omega (arith, c.loop-request-test.false)) c.loop-request.invariant.0 }
