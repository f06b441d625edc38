use Rattle.std.proofs.Common.{◌++◌, ◌∷◌, [], ap, sym, ◌∙◌}
use Rattle.std.specs.List.{flat_map}
use Rattle.std.specs.FinMap as env
use Rattle.std.proofs.KnownBytes.{Appends-nil}
use Rattle.fw_engines.proofs.ListingLemmas.{lines_joined}
use Rattle.fw_engines.proofs.LineLemmas.{line_written, line_stopped}
use Rattle.fw_engines.proofs.WriteLemmas.{stopped_text}
use Rattle.fw_engines.proofs.variable_lines.print_all.Goals as goal

pub loop-line-init : goal.loop-line-init
loop-line-init g c = (
  [],
  sym (ap (flat_map (λ x. x ++ 10 ∷ [])) (c.into_iter-line-iterator.ensures.into_iter_gives ∙ c.lines-line-items.ensures.lines) ∙ lines_joined (env.entries c.args.vars.now.env)),
  Appends-nil _,
)

pub returns-then-not-write_two : goal.returns-then-not-write_two
returns-then-not-write_two g c = stopped_text c.stopped.result _ _ _ _ c.stopped.ensures (line_stopped _ _ _ _ c.in-Some.line.now _ _ c.loop-line.invariant c.in-Some.ensures.steps c.if-not-write_two.ensures)

pub loop-line-preserved : goal.loop-line-preserved
loop-line-preserved g c = line_written _ _ _ _ c.in-Some.line.now _ _ c.loop-line.invariant c.in-Some.ensures.steps c.if-not-write_two.ensures
