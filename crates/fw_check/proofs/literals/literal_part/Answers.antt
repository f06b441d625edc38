use Rattle.std.proofs.Common.{Some, ap, sym, ◌∙◌}
use Rattle.hush_words.specs.Parts.{part_atoms, span_bytes}
use Rattle.fw_check.specs.Literals.{literal_of}
use Rattle.fw_check.proofs.LiteralLemmas.{plain-literal, quoted-literal}
use Rattle.fw_check.proofs.literals.literal_part.Goals as goal

pub returns-in-Plain : goal.returns-in-Plain
returns-in-Plain c =
    let source = c.args.text.now.source in
    ap Some c.bytes.ensures ∙ sym (plain-literal (span_bytes source c.in-Plain.span)) ∙ ap (λ p. literal_of (part_atoms source p)) (sym c.in-Plain.is)

pub returns-in-Quoted : goal.returns-in-Quoted
returns-in-Quoted c =
    let source = c.args.text.now.source in
    ap Some c.bytes-in-Quoted.ensures ∙ sym (quoted-literal (span_bytes source c.in-Quoted.span)) ∙ ap (λ p. literal_of (part_atoms source p)) (sym c.in-Quoted.is)
