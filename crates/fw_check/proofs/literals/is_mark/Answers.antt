use Rattle.std.proofs.Common.{ap, sym, ◌∙◌}
use Rattle.std.specs.List.{list_any}
use Rattle.hush_words.specs.Parts.{part_atoms, span_bytes}
use Rattle.fw_check.specs.Literals.{is_mark}
use Rattle.fw_check.proofs.StatusLemmas.{plain-mark, quoted-mark}
use Rattle.fw_check.proofs.literals.is_mark.Goals as goal

pub returns-in-Plain : goal.returns-in-Plain
returns-in-Plain c =
    λ source. sym (plain-mark (span_bytes source c.in-Plain.field-0)) ∙ ap (λ p. list_any is_mark (part_atoms source p)) (sym c.in-Plain.is)

pub returns-in-Quoted : goal.returns-in-Quoted
returns-in-Quoted c =
    λ source. sym (quoted-mark (span_bytes source c.in-Quoted.field-0)) ∙ ap (λ p. list_any is_mark (part_atoms source p)) (sym c.in-Quoted.is)
