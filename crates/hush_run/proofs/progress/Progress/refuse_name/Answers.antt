use Rattle.std.proofs.Common.{rules as allowed, ◌≡◌, ◌+◌, Err, add-one, List, ℕ, subst}
use Rattle.hush_commands.specs.Messages.{text_of}
use Rattle.hush_commands.specs.Output.{PrintsWhole}
use Rattle.hush_run.specs.Steps.{ending_of_print}
use Rattle.hush_run.specs.Meaning.{Rules, step, fails, Goes}
use Rattle.hush_run.specs.Meaning.Reason.{Output}
use Rattle.hush_run.specs.Steps.{state_of}
use Rattle.hush_run.proofs.StepLemmas.{told, untold, step_stopped}
use Rattle.hush_run.proofs.progress.Progress.refuse_name.Goals as goal

pub returns-in_err-tell : goal.returns-in_err-tell
returns-in_err-tell c =
    let same : c.from_residual.result ≡ Err (ending_of_print c.in_err-tell.field-0.0) = search allowed in
    rw same (λ rules held lt. untold rules (λ (r : Rules) begin. step r (fails c.args.message c.args.self.now.name.items)) (λ (u : Unit {0}) (r : Rules) begin. Goes) c.args.message c.args.self.now.name.items (state_of held c.args.self.now) c.tell.new.output c.in_err-tell.field-0.0 (subst (λ (name : List ℕ). PrintsWhole (text_of c.args.message name) c.args.self.now.output c.tell.new.output (Err c.in_err-tell.field-0.0)) c.deref.ensures.value c.in_err-tell.ensures.whole)
    (λ begin stops. step_stopped rules (fails c.args.message c.args.self.now.name.items) (state_of held c.args.self.now) Output lt stops))

pub returns : goal.returns
returns c = λ rules held lt. told rules c.args.message c.args.self.now.name.items (state_of held c.args.self.now) c.tell.new.output (c.args.self.now.steps + 1) lt (rw c.deref.ensures.value at c.in_ok-tell.ensures.whole) (add-one _)
