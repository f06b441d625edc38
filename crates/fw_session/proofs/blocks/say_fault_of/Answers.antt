use Rattle.std.proofs.Common.{sym, subst}
use Rattle.fw_session.specs.BlockFaults.{Tells}
use Rattle.fw_session.proofs.FaultLemmas.{tells_none, tells_one}
use Rattle.fw_session.proofs.blocks.say_fault_of.Goals as goal
use Rattle.fw_session.proofs.blocks.say_fault_of.Goals.{in-Ok, in-Err+in-Memory, in-Err+in_default}

pub returns : goal.returns
returns g c =
    elim c.match-parse_in.branch [
      | in-Ok w ↦ subst (λ e. Tells c.args.bodies (g.F.Write.contents c.args.errors.now) (g.F.Write.contents e)) (sym w.errors-is) (tells_none _ _)
      | in-Err+in-Memory w ↦ subst (λ e. Tells c.args.bodies (g.F.Write.contents c.args.errors.now) (g.F.Write.contents e)) (sym w.errors-is) (tells_none _ _)
      | in-Err+in_default w ↦
          subst (λ e. Tells c.args.bodies (g.F.Write.contents c.args.errors.now) (g.F.Write.contents e)) (sym w.errors-is)
          (tells_one _ _ c.args.copy.items _ _ _ c.requires (w.in-Err.ensures.unread w.in_default.not-Memory) (w.in-Err.ensures.exact w.in_default.not-Memory) w.say_syntax_fault.ensures)
    ]
