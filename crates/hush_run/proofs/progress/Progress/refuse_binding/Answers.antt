use Rattle.std.proofs.Common.{◌≡◌, ◌++◌, List, ℕ, codes, subst, ap, ◌∙◌}
use Rattle.hush_commands.specs.declared.messages.Message.TheVariants.{UnknownCommand}
use Rattle.hush_run.specs.Meaning.{Rules, step, fails, Goes}
use Rattle.hush_run.specs.Steps.{Did, state_of}
use Rattle.hush_run.proofs.progress.Progress.refuse_binding.Goals as goal

pub returns : goal.returns
returns c =
    let is : c.extend_from_slice-2.new.self.items ≡ c.args.self.now.name.items ++ codes "=" ++ c.args.field.now =
    c.in_ok-extend_from_slice-2.ensures.items ∙ ap (λ (x : List ℕ). x ++ c.args.field.now) c.in_ok-extend_from_slice.ensures.items in
    λ rules held lt. subst (λ (n : List ℕ). Did rules (λ (r : Rules) begin. step r (fails UnknownCommand n)) (λ (u : Unit {0}) r begin. Goes) (state_of held c.args.self.now) (state_of held c.refuse_name.new.self) c.refuse_name.result) is
    (c.refuse_name.ensures rules held lt)
