use Rattle.std.proofs.Common.{◌≡◌, drop, map}
use Rattle.fw_tools.specs.WantedHardware.{with_leavings}
use Rattle.fw_tools.proofs.hardware.leave_all.Given as goal

abbrev pub invariant-loop-name : goal.invariant-loop-name
invariant-loop-name l = with_leavings l.leaving l.stand_ins (map (λ n. n.now) (drop l.name-index l.names)) ≡ with_leavings l.leaving l.initial.stand_ins (map (λ n. n.now) l.names)
