use Rattle.std.proofs.Common.{◌∙◌}
use Rattle.hush_commands.proofs.BufferLemmas.{all-pieces, first-pieces}
use Rattle.hush_commands.proofs.pattern.front.Goals as goal

pub returns-then-lengths-most : goal.returns-then-lengths-most
returns-then-lengths-most c =
    c.again.ensures ∙ all-pieces c.args.most c.parts.result.0.now c.parts.result.1.now c.args.fields.now c.parts.ensures c.if-lengths-most.true

pub returns : goal.returns
returns c = c.new.ensures ∙ first-pieces c.args.most c.parts.result.0.now c.parts.result.1.now c.args.fields.now c.parts.ensures
