use Rattle.std.proofs.Common.{◌∙◌, ◌++◌, sym, ap}
use Rattle.std.proofs.lemmas.Bool.{eqb-true}
use Rattle.fw_session.proofs.AnswerLemmas.{long}
use Rattle.fw_session.proofs.StreamLemmas.{writes_as, writes_last}
use Rattle.fw_session.proofs.blocks.write_outcome.Goals as goal

pub returns-then-is_empty : goal.returns-then-is_empty
returns-then-is_empty g c =
    writes_last _ _ _ _ c.args.outcome.text.items _ _ c.write_text.result (long c.args.outcome.text ∙ eqb-true _ _ (sym c.is_empty.ensures ∙ c.if-is_empty.true)) (c.deref.ensures.0 ∙ c.ending_line-line.ensures) c.write_text.ensures

pub returns-in-Ok : goal.returns-in-Ok
returns-in-Ok g c =
    writes_as _ _ _ _ _ _ c.write_text-in-Ok.result (c.deref-in-Ok.ensures.value ∙ c.in-Ok.ensures.items ∙ ap (λ v. c.args.outcome.text.items ++ v) (c.deref-2.ensures.0 ∙ c.ending_line-line.ensures)) c.write_text-in-Ok.ensures

pub returns : goal.returns
returns g c =
    writes_as _ _ _ _ _ _ c.write_both.result
    (ap (λ v. v ++ c.deref-in-Err-2.result.now) (c.deref-in-Err.ensures.value ∙ c.in-Err.ensures.items) ∙ ap (λ v. c.args.outcome.text.items ++ v) (c.deref-in-Err-2.ensures.0 ∙ c.ending_line-line.ensures)) c.write_both.ensures
