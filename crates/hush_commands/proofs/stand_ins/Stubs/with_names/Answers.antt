use Rattle.std.proofs.Common.{◌∙◌, ap}
use Rattle.hush_commands.specs.CommandNames.{with_names}
use Rattle.hush_commands.proofs.CommandNameLemmas.{stub_keys}
use Rattle.hush_commands.proofs.stand_ins.Stubs.with_names.Goals as goal

pub returns : goal.returns
returns c = c.names_of.ensures ∙ ap (with_names c.args.word.now c.args.found) (stub_keys c.self.inside.roles.entries c.args.self.now c.self.invariant c.self.view_is)
