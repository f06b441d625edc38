use Rattle.std.proofs.Common.{rules, arith, refl, ◌∙◌, ap, ◌≡◌, Err, Some, drop}
use Rattle.hush_words.specs.Parts.{written}
use Rattle.hush_words.specs.Steps.{optional_token}
use Rattle.hush_words.proofs.TokenLemmas.{token-behind, passed-over, no-token, end-of-tokens}
use Rattle.hush_words.proofs.reading.token_from.Goals as goal

pub loop-first-init : goal.loop-first-init
loop-first-init c = record { begun = omega arith; left = refl; ends = refl; places = refl }

pub returns-in_err-kind : goal.returns-in_err-kind
returns-in_err-kind c =
    let i = c.loop-first.invariant in
    let same : c.from_residual.result ≡ Err c.in_err-kind.field-0.0 = search rules in
    rw same (no-token c.args.source.now c.args.place c.loop-first.at c.in-Some.first c.in_err-kind.field-0.0 c.in-Some.ensures c.in_err-kind.ensures.reads.0 c.in_err-kind.ensures.reads.1 i.left i.ends i.places)

pub returns-in-Some-kind : goal.returns-in-Some-kind
returns-in-Some-kind c =
    let source = c.args.source.now in
    let i = c.loop-first.invariant in
    let r = c.in_ok-kind.ensures.reads in
    token-behind source c.args.place c.loop-first.at c.in_ok-kind.field-0.end c.in-Some-kind.kind c.token_read.result
    c.token_read.ensures.kind c.token_read.ensures.place c.token_read.ensures.end i.begun r.0 r.1
    (r.2 ∙ ap (λ k. Some (optional_token (written source) k, drop c.in_ok-kind.field-0.end source)) c.in-Some-kind.is) i.left i.ends i.places
    (rw c.in-Some-kind.is at c.in_ok-kind.ensures.starts)

pub loop-first-preserved : goal.loop-first-preserved
loop-first-preserved c =
    let source = c.args.source.now in
    let i = c.loop-first.invariant in
    let r = c.in_ok-kind.ensures.reads in
    let over = passed-over source c.loop-first.at c.in_ok-kind.field-0.end r.0 r.1
    (r.2 ∙ ap (λ k. Some (optional_token (written source) k, drop c.in_ok-kind.field-0.end source)) c.in-None.is) in
    record { begun = omega (arith, i.begun, r.0); left = over.0 ∙ i.left; ends = over.1 ∙ i.ends; places = over.2 ∙ i.places }

pub returns : goal.returns
returns c =
    let i = c.loop-first.invariant in
    end-of-tokens c.args.source.now c.args.place c.loop-first.at c.in_default.ensures i.left i.ends i.places
