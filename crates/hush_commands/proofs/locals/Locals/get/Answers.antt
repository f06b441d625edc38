use Rattle.std.proofs.Common.{Some, ap, ◌∙◌}
use Rattle.std.specs.Option.{option_map}
use Rattle.hush_commands.specs.Entries.{bytes_view}
use Rattle.hush_commands.proofs.EntryLemmas.{get-value}
use Rattle.hush_commands.proofs.locals.Locals.get.Goals as goal

pub returns-in-Some : goal.returns-in-Some
returns-in-Some c =
    let at = get-value bytes_view c.self.inside.values.entries c.args.self.now c.args.name.now c.self.invariant c.self.view_is in
    ap Some c.as_slice.ensures.value ∙ ap (option_map bytes_view) c.in-Some.ensures.value ∙ at

pub returns-in-None : goal.returns-in-None
returns-in-None c =
    let at = get-value bytes_view c.self.inside.values.entries c.args.self.now c.args.name.now c.self.invariant c.self.view_is in
    ap (option_map bytes_view) c.in-None.ensures.value ∙ at
