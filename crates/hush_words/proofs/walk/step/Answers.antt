use Rattle.std.proofs.Common.{◌∙◌, ap, drop}
use Rattle.hush_words.specs.Reading.{piece_atoms_left}
use Rattle.hush_words.specs.Steps.{atoms_left}
use Rattle.hush_words.proofs.PieceLemmas.{nothing}
use Rattle.hush_words.proofs.walk.step.Goals as goal

pub returns-in-None : goal.returns-in-None
returns-in-None c =
    let text = drop c.args.place.at c.args.source.now in
    ap (λ i. atoms_left i text) c.in-Nothing.is ∙ ap piece_atoms_left c.in-None.ensures ∙ nothing
