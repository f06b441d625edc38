use Rattle.std.proofs.Common.{Bool, sym, subst, ◌∙◌}
use Rattle.hush_calc.specs.BoardSteps.{GoesOn}
use Rattle.hush_calc.proofs.BoardLemmas.{compared}
use Rattle.hush_calc.proofs.board.read_word.Goals as goal

pub returns-in-Some-clause-value : goal.returns-in-Some-clause-value
returns-in-Some-clause-value g c =
    let there = g.F.Files.there c.args.files.now in
    subst (λ (wanted : Bool). GoesOn wanted there c.read_compared.new.words c.read_compared.result)
    (sym (compared there c.args.reading c.args.word.now c.args.words.now c.in-Some.comparison (sym c.first_of.ensures ∙ c.in-Some.is)))
    (c.read_compared.ensures.value there)
