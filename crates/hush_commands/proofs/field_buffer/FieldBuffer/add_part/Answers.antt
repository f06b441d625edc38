use Rattle.std.proofs.Common.{List, subst, ◌∙◌}
use Rattle.hush_commands.specs.Expansion.{Item}
use Rattle.hush_commands.specs.Scopes.{known}
use Rattle.hush_commands.specs.Buffers.{AddsPart}
use Rattle.hush_commands.proofs.ItemLemmas.{plain-part, quoted-part, value-part, status-part}
use Rattle.hush_commands.proofs.field_buffer.FieldBuffer.add_part.Goals as goal

pub returns-in-Plain : goal.returns-in-Plain
returns-in-Plain c =
    subst (λ (is : List Item). AddsPart is c.args.left c.args.self.now c.add_bytes.new.self c.add_bytes.result)
    (plain-part c.args.uncut (known c.args.scope.now) c.args.scope.now.text.now.source c.args.part c.in-Plain.span c.bytes.result.now c.in-Plain.is c.bytes.ensures)
    c.add_bytes.ensures

pub returns-in-Quoted : goal.returns-in-Quoted
returns-in-Quoted c =
    subst (λ (is : List Item). AddsPart is c.args.left c.args.self.now c.add_bytes-in-Quoted.new.self c.add_bytes-in-Quoted.result)
    (quoted-part c.args.uncut (known c.args.scope.now) c.args.scope.now.text.now.source c.args.part c.in-Quoted.span c.bytes-in-Quoted.result.now c.in-Quoted.is c.bytes-in-Quoted.ensures)
    c.add_bytes-in-Quoted.ensures

pub returns-in-Value : goal.returns-in-Value
returns-in-Value c =
    subst (λ (is : List Item). AddsPart is c.args.left c.args.self.now c.substitute.new.self c.substitute.result)
    (value-part c.args.uncut c.in-Value.quoted (known c.args.scope.now) c.args.scope.now.text.now.source c.args.part c.in-Value.span c.bytes-in-Value.result.now c.value-value.result.now c.in-Value.is c.bytes-in-Value.ensures c.value-value.ensures)
    c.substitute.ensures

pub returns-in-Status : goal.returns-in-Status
returns-in-Status c =
    subst (λ (is : List Item). AddsPart is c.args.left c.args.self.now c.substitute-in-Status.new.self c.substitute-in-Status.result)
    (status-part c.args.uncut c.in-Status.quoted (known c.args.scope.now) c.args.scope.now.text.now.source c.args.part c.as_bytes.result.now c.in-Status.is (c.as_bytes.ensures.value ∙ c.format.ensures.text))
    c.substitute-in-Status.ensures
