use Rattle.std.proofs.Common.{[], ap, sym, ◌∙◌}
use Rattle.std.specs.Prelude.{option_map, unwrap_or}
use Rattle.hush_words.specs.Parts.{word_atoms}
use Rattle.fw_check.proofs.LiteralLemmas.{named-literal}
use Rattle.fw_check.proofs.literals.name_in.Goals as goal

pub returns-in-Some : goal.returns-in-Some
returns-in-Some c =
    let atoms = word_atoms c.args.text.now c.args.word in
    ap (λ o. unwrap_or o []) (sym (ap (option_map (λ v. v.items)) c.in-Some.is) ∙ c.in_ok-name.ensures ∙ named-literal atoms (sym c.is_name.ensures ∙ c.if-not-is_name.false))

pub returns-in-None : goal.returns-in-None
returns-in-None c =
    let atoms = word_atoms c.args.text.now c.args.word in
    c.new-in-None.ensures.items
    ∙ ap (λ o. unwrap_or o []) (sym (ap (option_map (λ v. v.items)) c.in-None.is) ∙ c.in_ok-name.ensures ∙ named-literal atoms (sym c.is_name.ensures ∙ c.if-not-is_name.false))
