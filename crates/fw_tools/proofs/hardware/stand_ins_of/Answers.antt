use Rattle.std.proofs.Common.{ap, ◌∙◌}
use Rattle.hush_commands.specs.declared.departure.Leaving.TheVariants.{Resets}
use Rattle.fw_arguments.specs.DryRuns.{dry_run_view}
use Rattle.fw_tools.specs.WantedHardware.{with_leavings}
use Rattle.fw_tools.proofs.hardware.stand_ins_of.Goals as goal

pub returns : goal.returns
returns g c = (
  c.in_ok-stand_ins.stand_ins,
  c.in_ok-stand_ins.ensures,
  c.in_ok-leave_given-2.ensures ∙ ap (λ s. with_leavings Resets s (dry_run_view c.args.run.now).resets) c.in_ok-leave_given.ensures,
)
