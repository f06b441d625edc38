use Rattle.std.proofs.Common.{ap, sym, ◌∙◌}
use Rattle.hush_words.specs.Parts.{part_atoms, span_bytes}
use Rattle.fw_check.specs.Foreign.{plain_of}
use Rattle.fw_check.proofs.ForeignLemmas.{plain-plain, plain-quoted}
use Rattle.fw_check.proofs.foreign.plain_part.Goals as goal

pub returns-in-Plain : goal.returns-in-Plain
returns-in-Plain c =
    let source = c.args.text.now.source in
    c.bytes.ensures ∙ sym (plain-plain (span_bytes source c.in-Plain.span)) ∙ ap (λ p. plain_of (part_atoms source p)) (sym c.in-Plain.is)

pub returns-in-Quoted : goal.returns-in-Quoted
returns-in-Quoted c =
    let source = c.args.text.now.source in
    sym (plain-quoted (span_bytes source c.in-Quoted.field-0)) ∙ ap (λ p. plain_of (part_atoms source p)) (sym c.in-Quoted.is)
