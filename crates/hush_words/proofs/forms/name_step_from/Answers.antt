use Rattle.std.proofs.Common.{arith, sym, ◌∙◌, []}
use Rattle.hush_words.specs.Parts.{range_bytes}
use Rattle.hush_words.proofs.NameRuns.{run-goes, line-goes, none-on}
use Rattle.hush_words.proofs.EqualsPlaces.{run-past, line-past}
use Rattle.hush_words.proofs.forms.name_step_from.Goals as goal

pub returns-then-goes_on-clause-goes : goal.returns-then-goes_on-clause-goes
returns-then-goes_on-clause-goes c =
    let source = c.args.source.now in
    let here = c.args.here in
    let end = c.run_end.result in
    let r = run-goes source here.at end c.args.first here.begun c.requires.here (sym c.goes_on.ensures ∙ c.if-goes_on.true) c.run_end.ensures in
    (r.0, c.run_end.ensures.1, range_bytes source here.at end, r.1, r.2)

pub returns-then-is_joined_line-clause-goes : goal.returns-then-is_joined_line-clause-goes
returns-then-is_joined_line-clause-goes c =
    let line = line-goes c.args.source.now c.args.here.at (sym c.is_joined_line.ensures ∙ c.if-is_joined_line.true) in
    (omega arith, line.0, [], line.1, none-on c.args.here.begun)

pub returns-then-goes_on-clause-before : goal.returns-then-goes_on-clause-before
returns-then-goes_on-clause-before c = run-past c.args.source.now c.args.here.at c.run_end.result c.run_end.ensures

pub returns-then-is_joined_line-clause-before : goal.returns-then-is_joined_line-clause-before
returns-then-is_joined_line-clause-before c = line-past c.args.source.now c.args.here.at (sym c.is_joined_line.ensures ∙ c.if-is_joined_line.true)
