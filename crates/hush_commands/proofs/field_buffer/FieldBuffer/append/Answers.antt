use Rattle.std.proofs.Common.{ℕ, List, true, ap, ◌∙◌, sym}
use Rattle.hush_commands.specs.Buffers.{Made, made, with_bytes}
use Rattle.hush_commands.proofs.BufferLemmas.{made-bytes}
use Rattle.hush_commands.proofs.ItemLemmas.{run-added, run-empty}
use Rattle.hush_commands.proofs.field_buffer.FieldBuffer.append.Goals as goal

pub returns-then-is_empty-clause-ok : goal.returns-then-is_empty-clause-ok
returns-then-is_empty-clause-ok c = run-empty c.args.self.now c.args.bytes.now (sym c.is_empty.ensures ∙ c.if-is_empty.true)

pub returns-in-Ok-clause-ok : goal.returns-in-Ok-clause-ok
returns-in-Ok-clause-ok c =
    ap (λ (x : List ℕ). made x c.self.inside.lengths.items c.self.inside.start true) c.in-Ok.ensures.items
    ∙ made-bytes c.self.inside.bytes.items c.self.inside.lengths.items c.self.inside.start c.self.inside.begun c.args.bytes.now c.self.invariant
    ∙ ap (λ (m : Made). with_bytes m c.args.bytes.now) c.self.view_is
    ∙ run-added c.args.self.now c.args.bytes.now (sym c.is_empty.ensures ∙ c.if-is_empty.false)
