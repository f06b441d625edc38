use Rattle.std.proofs.Common.{◌∙◌, ap}
use Rattle.hush_commands.specs.Stubs.{leaving_of}
use Rattle.hush_commands.proofs.StandInLemmas.{get-role}
use Rattle.hush_commands.proofs.stand_ins.Stubs.leaving.Goals as goal

pub returns-in-Some : goal.returns-in-Some
returns-in-Some c =
    c.leaving_with.ensures ∙ ap leaving_of (c.in-Some.ensures.value ∙ get-role c.self.inside.roles.entries c.args.self.now c.args.name.now c.self.invariant c.self.view_is)

pub returns-in-None : goal.returns-in-None
returns-in-None c =
    ap leaving_of (c.in-None.ensures.value ∙ get-role c.self.inside.roles.entries c.args.self.now c.args.name.now c.self.invariant c.self.view_is)
