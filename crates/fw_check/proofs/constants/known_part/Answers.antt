use Rattle.std.proofs.Common.{◌≡◌, Some, ap, subst, sym, ◌∙◌}
use Rattle.std.specs.Prelude.{IfOk, option_map}
use Rattle.hush_words.specs.Parts.{part_atoms, span_bytes}
use Rattle.fw_check.specs.Knowing.{text_of}
use Rattle.fw_check.specs.Looking.{known_in}
use Rattle.fw_check.proofs.ConstantLemmas.{plain-text, quoted-text}
use Rattle.fw_check.proofs.constants.known_part.Goals as goal

pub returns-in-Plain : goal.returns-in-Plain
returns-in-Plain c =
    let source = c.args.text.now.source in
    let k = known_in c.args.lookups.now in
    let same = ap Some c.bytes.ensures ∙ sym (plain-text k (span_bytes source c.in-Plain.span)) ∙ ap (λ p. text_of k (part_atoms source p)) (sym c.in-Plain.is) in
    subst (λ o. IfOk c.copied.result (λ copy. option_map (λ v. v.items) copy ≡ o)) same c.copied.ensures

pub returns-in-Quoted : goal.returns-in-Quoted
returns-in-Quoted c =
    let source = c.args.text.now.source in
    let k = known_in c.args.lookups.now in
    let same = ap Some c.bytes-in-Quoted.ensures ∙ sym (quoted-text k (span_bytes source c.in-Quoted.span)) ∙ ap (λ p. text_of k (part_atoms source p)) (sym c.in-Quoted.is) in
    subst (λ o. IfOk c.copied-in-Quoted.result (λ copy. option_map (λ v. v.items) copy ≡ o)) same c.copied-in-Quoted.ensures
