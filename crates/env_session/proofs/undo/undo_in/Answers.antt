use Rattle.std.proofs.Common.{◌≤◌, IsTrue, not, subst, sym}
use Rattle.std.proofs.lemmas.Result.{on_err_weaker}
use Rattle.envimg_core.specs.Environment.{used}
use Rattle.envvars_core.specs.Olds.{OldValues, restored, goes_in_place}
use Rattle.env_session.specs.Spans.{now_of}
use Rattle.env_session.proofs.MarkLemmas.{emptied_ok, back_ok, olds_here}
use Rattle.env_session.proofs.undo.undo_in.Goals as goal

pub take_back-requires : goal.take_back-requires
take_back-requires c = record { fits = subst (λ (o : OldValues). used (restored c.args.vars.now.env o) ≤ c.args.vars.now.room) (olds_here c.args.spans.now c.args.last c.index-spans-last.result c.requires.within) c.requires.fits }

pub returns-clause-back : goal.returns-clause-back
returns-clause-back c = back_ok c.take_back.result c.args.spans.now c.args.last c.index-spans-last.result (now_of c.args.stored.now c.args.vars.now c.args.current.now) (now_of c.take_back.new.stored c.take_back.new.vars c.take_back.new.current) c.requires.within c.take_back.ensures.back

pub returns-clause-spans : goal.returns-clause-spans
returns-clause-spans c = emptied_ok c.take_back.result c.args.spans.now c.args.last c.index-spans-last.result c.take_back.new.span c.requires.within c.take_back.ensures.span

pub returns-clause-refused_only : goal.returns-clause-refused_only
returns-clause-refused_only c = on_err_weaker c.take_back.result (λ h. subst (λ (o : OldValues). IsTrue (not (goes_in_place c.args.vars.now.env o))) (sym (olds_here c.args.spans.now c.args.last c.index-spans-last.result c.requires.within)) h) c.take_back.ensures.refused_only
