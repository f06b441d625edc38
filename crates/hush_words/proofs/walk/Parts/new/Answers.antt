use Rattle.std.proofs.Common.{◌∙◌, ap, take, drop}
use Rattle.std.proofs.lemmas.List.{take_min}
use Rattle.hush_words.specs.Reading.{piece_atoms_left}
use Rattle.hush_words.proofs.RangeLemmas.{front-drop}
use Rattle.hush_words.proofs.walk.Parts.new.Goals as goal

pub returns-clause-atoms : goal.returns-clause-atoms
returns-clause-atoms c =
    let source = c.args.source.now in
    ap (λ n. piece_atoms_left (drop c.args.start (take n source))) c.min.ensures
    ∙ ap (λ l. piece_atoms_left (drop c.args.start l)) (take_min c.args.end source)
    ∙ ap piece_atoms_left (front-drop source c.args.start c.args.end)
