use Rattle.std.proofs.Common.{◌∙◌, ap}
use Rattle.std.specs.Prelude.{option_map}
use Rattle.hush_commands.specs.declared.stand_ins.Role.{Role}
use Rattle.hush_commands.proofs.StandInLemmas.{get-role}
use Rattle.hush_commands.proofs.stand_ins.Stubs.status.Goals as goal

pub returns-in-Some : goal.returns-in-Some
returns-in-Some c =
    ap (option_map (λ (r : Role). r.status)) (c.in-Some.ensures.value ∙ get-role c.self.inside.roles.entries c.args.self.now c.args.name.now c.self.invariant c.self.view_is)

pub returns-in-None : goal.returns-in-None
returns-in-None c =
    ap (option_map (λ (r : Role). r.status)) (c.in-None.ensures.value ∙ get-role c.self.inside.roles.entries c.args.self.now c.args.name.now c.self.invariant c.self.view_is)
