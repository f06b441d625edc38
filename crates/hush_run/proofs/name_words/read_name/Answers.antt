use Rattle.std.proofs.Common.{◌++◌, ◌∙◌, sym, ap, List, ℕ}
use Rattle.hush_words.specs.Parts.{word_atoms}
use Rattle.hush_run.specs.Steps.{plain_bytes}
use Rattle.hush_run.proofs.NameLemmas.{name_is}
use Rattle.hush_run.proofs.name_words.read_name.Goals as goal

pub returns-in_ok-append_plain : goal.returns-in_ok-append_plain
returns-in_ok-append_plain c =
    c.in_ok-append_plain.ensures
    ∙ ap (λ (xs : List ℕ). xs ++ plain_bytes c.parts.result.atoms) c.clear.ensures.items
    ∙ ap plain_bytes c.parts.ensures.atoms
    ∙ name_is (word_atoms c.args.text.now c.args.word) (sym c.is_name.ensures ∙ c.if-is_name.true)
